use Rattle.std.proofs.Common.{◌≡◌, ◌+◌, ◌-◌, ◌*◌, ◌≤◌, ℕ, length, take, vec_capacity, vec_len}
use Rattle.ms_arena.specs.Others.{AreGroups, position_grouped, position_listed}
use Rattle.ms_arena.proofs.words.others.spread.Given as goal

-- The stretches so far have their positions, and there is room for the others.
abbrev pub invariant-loop-at : goal.invariant-loop-at
invariant-loop-at l = record {
  groups : AreGroups l.numbers.items l.positions.items;
  numbers : 2048 ≤ vec_capacity l.numbers;
  room : 32 * (l.more + (length l.list - l.at)) ≤ vec_capacity l.positions - vec_len l.positions;
  set : (stretch : ℕ) → position_grouped l.numbers.items l.positions.items stretch ≡ position_listed (take l.at l.list) stretch;
}
