-- The text of a report: its sections in their order (this project's choice).
use Rattle.std.specs.Prelude.{ℕ, ◌==◌, List, [], ◌++◌, codes, if◌then◌else◌}
use Rattle.ms_base.specs.Totals.{SpaceSums, LoaderRow, Sums}
use Rattle.ms_report.specs.Layout.{number_line, number_lines, space_rows, header, level_table, level_lines}
use Rattle.ms_report.specs.Layout.{loader_table, loader_lines}

-- A space's levels: the headings, then thirteen lines.
abbrev pub levels_part : SpaceSums → List ℕ
levels_part space = header level_table ++ level_lines 0 space.held space.free

-- The whole system: the number of loaders, then the space that is not the class space.
abbrev pub main_part : Sums → List ℕ
main_part sums =
    codes "Metaspace\n"
    ++ number_line (codes "loaders") sums.loaders
    ++ number_lines (space_rows sums.space)
    ++ codes "Chunks by level\n"
    ++ levels_part sums.space

-- The class space: its eleven numbers and its levels.
abbrev pub class_lines : SpaceSums → List ℕ
class_lines space =
    codes "Class space\n"
    ++ number_lines (space_rows space)
    ++ codes "Class chunks by level\n"
    ++ levels_part space

-- It is left out where it has no nodes.
abbrev pub class_part : SpaceSums → List ℕ
class_part space = if space.nodes == 0 then [] else class_lines space

-- The loaders, in the order of their rows.
abbrev pub loaders_part : List LoaderRow → List ℕ
loaders_part rows = codes "Loaders\n" ++ header loader_table ++ loader_lines rows

-- The report.
abbrev pub report_text : Sums → List ℕ
report_text sums = main_part sums ++ class_part sums.class_space ++ loaders_part sums.rows
