use Rattle.std.proofs.Common.{◌≡◌, ℕ, ◌*◌, ◌<◌, true}
use Rattle.ms_commit.specs.Mask.{is_set}
use Rattle.ms_commit.proofs.mask.lowest_clear.Given as goal

-- The words passed have no clear bit.
abbrev pub invariant-loop-index : goal.invariant-loop-index
invariant-loop-index l = (k : ℕ) → k < 64 * l.index → is_set l.words k ≡ true
