use Rattle.std.proofs.Common.{◌≡◌, ℕ, ◌+◌, ◌-◌, ◌≤◌}
use Rattle.ms_arena.specs.Positions.{position_given, position_in}
use Rattle.ms_arena.proofs.words.positions.enter_all.Given as goal

-- The stretches so far have their positions, and there is room for the others.
abbrev pub invariant-loop-stretch : goal.invariant-loop-stretch
invariant-loop-stretch l = record {
  put : (other : ℕ) → position_in l.newest l.others other
      ≡ position_given l.first l.stretch l.position other (position_in l.fn.newest l.fn.others other);
  room : l.fn.others.spare ≤ l.others.spare + (l.stretch - l.first);
}
