use Rattle.std.proofs.Common.{◌≡◌, ◌<◌, ℕ, true}
use Rattle.ms_base.specs.Part.{is_reserved}
use Rattle.ms_commit.specs.Nodes.{all_slots}
use Rattle.ms_pool.proofs.lending.lowest_missing.Given as goal

-- Each slot so far is reserved.
abbrev pub invariant-loop-slot : goal.invariant-loop-slot
invariant-loop-slot l = (k : ℕ) → k < l.slot → is_reserved (all_slots l.nodes) k ≡ true
