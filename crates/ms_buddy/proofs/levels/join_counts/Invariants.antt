use Rattle.std.proofs.Common.{◌+◌, ◌≤◌}
use Rattle.ms_buddy.specs.Counts.{AreShifted}
use Rattle.ms_buddy.proofs.levels.join_counts.Given as goal

-- The levels passed have one less.
abbrev pub invariant-loop-level : goal.invariant-loop-level
invariant-loop-level l = record { within : l.level ≤ l.lent + 1; shifted : AreShifted l.counts l.free l.level l.fn.counts }
