-- The lines of the four kinds, one after the other.
use Rattle.std.specs.Prelude.{string_bytes}
use Rattle.ms_base.specs.declared.kind.Kind.TheVariants.{Standard, Boot, Reflection, Hidden}
use Rattle.ms_report.specs.Kinds.{kind_line}
use Rattle.ms_report.proofs.TextLemmas.{adds_four}
use Rattle.ms_report.proofs.kinds.push_kind_lines.Goals as goal

pub returns : goal.returns
returns c =
    let kinds = c.args.kinds.now in
    adds_four (string_bytes c.args.text.now) _ _ _ _ (kind_line Boot kinds.boot) (kind_line Standard kinds.standard)
    (kind_line Hidden kinds.hidden) (kind_line Reflection kinds.reflection) c.in_ok-push_kind.ensures
    c.in_ok-push_kind-2.ensures c.in_ok-push_kind-3.ensures c.in_ok-push_kind-4.ensures
