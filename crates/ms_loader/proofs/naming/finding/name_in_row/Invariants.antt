use Rattle.std.proofs.Common.{◌≡◌, ◌<◌, ℕ}
use Rattle.ms_loader.specs.Table.{at_slot}
use Rattle.ms_loader.proofs.naming.finding.name_in_row.Given as goal

-- No slot so far has the block.
abbrev pub invariant-loop-at : goal.invariant-loop-at
invariant-loop-at l = (slot : ℕ) → slot < l.at → at_slot l.row slot ≡ l.block → ⊥
