use Rattle.std.proofs.Common.{◌≡◌, ◌++◌, drop, map}
use Rattle.std.specs.Prelude.{string_bytes}
use Rattle.ms_answers.specs.Sums.{row_in}
use Rattle.ms_report.specs.Layout.{loader_lines}
use Rattle.ms_report.proofs.sections.push_rows.Given as goal

-- the text so far, then the lines of the later rows
abbrev pub invariant-loop-row : goal.invariant-loop-row
invariant-loop-row l =
    string_bytes l.fn.text ++ loader_lines (map row_in l.rows)
    ≡ string_bytes l.text ++ loader_lines (map row_in (drop l.row-index l.rows))
