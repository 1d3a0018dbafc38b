use Rattle.std.proofs.Common.{◌≡◌, take}
use Rattle.ms_page.specs.Peaks.{peaks_of}
use Rattle.ms_page.proofs.peaks.peaks_of.Given as goal

-- the most over the first columns
abbrev pub invariant-loop-column : goal.invariant-loop-column
invariant-loop-column l = l.peaks ≡ peaks_of (take l.column-index l.columns)
