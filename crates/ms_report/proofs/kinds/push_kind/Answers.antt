use Rattle.std.proofs.Common.{codes, decimal, ◌++◌}
use Rattle.std.specs.Prelude.{string_bytes}
use Rattle.ms_report.specs.Kinds.{sum_columns, sum_texts}
use Rattle.ms_report.specs.Layout.{cells, kind_text, right_in}
use Rattle.ms_report.proofs.TextLemmas.{adds_two}
use Rattle.ms_report.proofs.KindLemmas.{kind_added}
use Rattle.ms_report.proofs.kinds.push_kind.Goals as goal

pub returns : goal.returns
returns c =
    let totals = c.args.totals.now in
    let old = string_bytes c.args.text.now in
    let front = codes "  " ++ (right_in 12 (kind_text c.args.kind) ++ right_in 9 (decimal totals.loaders)) in
    let sums = cells sum_columns (sum_texts totals) in
    kind_added c.push_str.result old _ _ c.args.kind totals
    (adds_two old _ _ front sums c.in_ok-push_count.ensures c.in_ok-push_sums.ensures) c.push_str.ensures.bytes
