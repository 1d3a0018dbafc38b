use Rattle.std.proofs.Common.{◌≡◌, take}
use Rattle.ms_page.specs.Largest.{largest_of}
use Rattle.ms_page.proofs.largest.largest.Given as goal

-- the largest of the first loaders
abbrev pub invariant-loop-holding : goal.invariant-loop-holding
invariant-loop-holding l = l.largest.items ≡ largest_of (take l.holding-index l.holdings)
