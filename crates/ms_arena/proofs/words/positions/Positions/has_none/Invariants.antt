use Rattle.std.proofs.Common.{◌≡◌, ℕ, ◌<◌, ◌≤◌}
use Rattle.ms_arena.specs.Positions.{position_of}
use Rattle.ms_arena.proofs.words.positions.Positions.has_none.Given as goal

-- No stretch so far has a position.
abbrev pub invariant-loop-stretch : goal.invariant-loop-stretch
invariant-loop-stretch l = (stretch : ℕ) → l.first ≤ stretch → stretch < l.stretch → position_of l.self stretch ≡ 0
