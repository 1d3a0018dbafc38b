use Rattle.std.proofs.Common.{◌≤◌, ◌-◌}
use Rattle.ms_pool.proofs.PurgedToLemmas.{IsPurgedTo}
use Rattle.ms_pool.proofs.lender.Lender.purge.Given as goal

-- The first slots were looked at, and nothing but the nodes changed.
abbrev pub invariant-loop-slot : goal.invariant-loop-slot
invariant-loop-slot l = record { purged : IsPurgedTo l.fn.self l.self l.from; within : l.from ≤ 64 }

abbrev pub decreases-loop-slot : goal.decreases-loop-slot
decreases-loop-slot l = 64 - l.from
