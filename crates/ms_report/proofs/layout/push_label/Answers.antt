-- After the label come as many spaces as are left of its column.
use Rattle.std.proofs.Common.{◌++◌, ◌-◌, codes, length, replicate}
use Rattle.std.specs.Prelude.{string_bytes}
use Rattle.ms_report.proofs.PaddingLemmas.{spaces_after}
use Rattle.ms_report.proofs.TextLemmas.{adds_text, adds_two}
use Rattle.ms_report.proofs.layout.push_label.Goals as goal

pub returns : goal.returns
returns c =
    let label = c.args.label.now in
    let old = string_bytes c.args.text.now in
    adds_text c.push_str-3.result old _ _ (codes "  " ++ label) (replicate (12 - length label) 32)
    (adds_two old _ _ (codes "  ") label c.in_ok-push_str.ensures.bytes c.in_ok-push_str-2.ensures.bytes)
    (rw (c.range_from.ensures.value, spaces_after (length label) c.min.result c.min.ensures) at c.push_str-3.ensures.bytes)
