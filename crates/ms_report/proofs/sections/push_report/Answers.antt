use Rattle.std.proofs.Common.{map, ◌++◌}
use Rattle.std.specs.Prelude.{string_bytes}
use Rattle.ms_answers.specs.Sums.{row_in, sums_in, space_in}
use Rattle.ms_report.specs.Sections.{main_part, class_part, loaders_part}
use Rattle.ms_report.proofs.TextLemmas.{adds_then, adds_two}
use Rattle.ms_report.proofs.sections.push_report.Goals as goal

pub returns : goal.returns
returns c =
    let old = string_bytes c.args.text.now in
    let main = main_part (sums_in c.args.totals.now) in
    let class = class_part (space_in c.args.totals.now.class_space) in
    adds_then c.push_loaders.result old _ _ (main ++ class) (loaders_part (map row_in c.args.totals.now.rows.items))
    (adds_two old _ _ main class c.in_ok-push_main.ensures c.in_ok-push_class.ensures)
    (rw c.as_slice.ensures.value at c.push_loaders.ensures)
