-- The levels passed are told.
use Rattle.std.proofs.Common.{◌≡◌, ◌≤◌, ◌&&◌, ℕ, get_or}
use Rattle.std.specs.Prelude.{nat_lt}
use Rattle.ms_buddy.specs.Leaves.{has_level}
use Rattle.ms_buddy.proofs.levels.levels_of.Given as goal

abbrev pub invariant-loop-level : goal.invariant-loop-level
invariant-loop-level l = record {
  within : l.level ≤ 13;
  told : (other : ℕ) → has_level l.levels other ≡ (nat_lt other l.level && nat_lt 0 (get_or l.counts other 0));
}
