use Rattle.std.proofs.Common.{◌≡◌, ◌++◌, drop}
use Rattle.std.specs.Prelude.{string_bytes}
use Rattle.ms_report.specs.Layout.{number_lines}
use Rattle.ms_report.specs.Cells.{pairs_in}
use Rattle.ms_report.proofs.layout.push_number_lines.Given as goal

-- the text so far, then the lines of the later rows
abbrev pub invariant-loop-label : goal.invariant-loop-label
invariant-loop-label l =
    string_bytes l.fn.text ++ number_lines (pairs_in l.rows)
    ≡ string_bytes l.text ++ number_lines (pairs_in (drop l.label-index l.rows))
