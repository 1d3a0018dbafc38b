use Rattle.std.proofs.Common.{◌≡◌, ◌++◌, drop}
use Rattle.std.specs.Prelude.{string_bytes}
use Rattle.ms_report.specs.Detailed.{amount_lines}
use Rattle.ms_report.specs.Cells.{rows_in}
use Rattle.ms_report.proofs.detailed.push_amount_lines.Given as goal

-- the text so far, then the lines of the later rows
abbrev pub invariant-loop-label : goal.invariant-loop-label
invariant-loop-label l =
    string_bytes l.fn.text ++ amount_lines (rows_in l.rows)
    ≡ string_bytes l.text ++ amount_lines (rows_in (drop l.label-index l.rows))
