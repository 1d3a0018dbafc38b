use Rattle.std.proofs.Common.{codes, ◌++◌}
use Rattle.std.specs.Prelude.{string_bytes}
use Rattle.ms_answers.specs.Sums.{space_in}
use Rattle.ms_report.specs.Layout.{number_line, number_lines, space_rows}
use Rattle.ms_report.specs.Sections.{levels_part}
use Rattle.ms_report.proofs.TextLemmas.{adds_four, adds_then}
use Rattle.ms_report.proofs.sections.push_main.Goals as goal

pub returns : goal.returns
returns c =
    let space = space_in c.args.totals.now.space in
    let loaders = number_line (codes "loaders") c.args.totals.now.loaders in
    let old = string_bytes c.args.text.now in
    let title = codes "Metaspace\n" in
    let rows = number_lines (space_rows space) in
    let levels = codes "Chunks by level\n" in
    adds_then c.push_levels.result old _ _ (title ++ loaders ++ rows ++ levels) (levels_part space)
    (adds_four old _ _ _ _ title loaders rows levels c.in_ok-push_str.ensures.bytes
    (rw c.from.ensures at c.in_ok-push_number_line.ensures) c.in_ok-push_space.ensures
    c.in_ok-push_str-2.ensures.bytes) c.push_levels.ensures
