use Rattle.std.proofs.Common.{◌≡◌, ◌++◌, drop}
use Rattle.std.specs.Prelude.{string_bytes}
use Rattle.ms_report.specs.Map.{letters}
use Rattle.ms_report.proofs.maps.push_letters.Given as goal

-- the text so far, then the letters of the later cells
abbrev pub invariant-loop-cell : goal.invariant-loop-cell
invariant-loop-cell l =
    string_bytes l.fn.text ++ letters l.cells ≡ string_bytes l.text ++ letters (drop l.cell-index l.cells)
