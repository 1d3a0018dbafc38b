use Rattle.std.proofs.Common.{codes, map, ◌++◌}
use Rattle.std.specs.Prelude.{string_bytes}
use Rattle.ms_answers.specs.Details.{loader_in}
use Rattle.ms_report.specs.Kinds.{kind_table, kind_lines, kinds_of}
use Rattle.ms_report.specs.Layout.{header}
use Rattle.ms_report.proofs.TextLemmas.{adds_then}
use Rattle.ms_report.proofs.kinds.push_kinds.Goals as goal

pub returns : goal.returns
returns c =
    adds_then c.push_kind_lines.result (string_bytes c.args.text.now) _ _ (codes "Kinds\n" ++ header kind_table)
    (kind_lines (kinds_of (map loader_in c.args.loaders.now))) c.in_ok-push_str.ensures.bytes
    (rw c.sum_kinds-kinds.ensures at c.push_kind_lines.ensures)
