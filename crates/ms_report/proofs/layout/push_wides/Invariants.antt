use Rattle.std.proofs.Common.{◌≡◌, ◌++◌, drop}
use Rattle.std.specs.Prelude.{string_bytes}
use Rattle.ms_report.specs.Cells.{all_aligned}
use Rattle.ms_report.proofs.layout.push_wides.Given as goal

-- the text so far, then the later numbers
abbrev pub invariant-loop-width : goal.invariant-loop-width
invariant-loop-width l =
    string_bytes l.fn.text ++ all_aligned l.columns
    ≡ string_bytes l.text ++ all_aligned (drop l.width-index l.columns)
