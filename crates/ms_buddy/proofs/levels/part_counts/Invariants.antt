use Rattle.std.proofs.Common.{◌+◌, ◌≤◌}
use Rattle.ms_buddy.specs.Counts.{AreShifted}
use Rattle.ms_buddy.proofs.levels.part_counts.Given as goal

-- The levels passed have one more.
abbrev pub invariant-loop-level : goal.invariant-loop-level
invariant-loop-level l = record { within : l.level ≤ l.lent + 1; shifted : AreShifted l.fn.counts l.free l.level l.counts }
