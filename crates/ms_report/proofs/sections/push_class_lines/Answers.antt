use Rattle.std.proofs.Common.{codes, ◌++◌}
use Rattle.std.specs.Prelude.{string_bytes}
use Rattle.ms_answers.specs.Sums.{space_in}
use Rattle.ms_report.specs.Layout.{number_lines, space_rows}
use Rattle.ms_report.specs.Sections.{levels_part}
use Rattle.ms_report.proofs.TextLemmas.{adds_then, adds_three}
use Rattle.ms_report.proofs.sections.push_class_lines.Goals as goal

pub returns : goal.returns
returns c =
    let space = space_in c.args.space.now in
    let old = string_bytes c.args.text.now in
    let title = codes "Class space\n" in
    let rows = number_lines (space_rows space) in
    let levels = codes "Class chunks by level\n" in
    adds_then c.push_levels.result old _ _ (title ++ rows ++ levels) (levels_part space)
    (adds_three old _ _ _ title rows levels c.in_ok-push_str.ensures.bytes c.in_ok-push_space.ensures
    c.in_ok-push_str-2.ensures.bytes) c.push_levels.ensures
