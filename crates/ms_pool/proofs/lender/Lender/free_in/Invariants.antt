use Rattle.ms_pool.proofs.counts.FreeCountLemmas.{IsCountedTo}
use Rattle.ms_pool.proofs.lender.Lender.free_in.Given as goal

-- What was counted and the parts of the slots that are left make the whole.
abbrev pub invariant-loop-slot : goal.invariant-loop-slot
invariant-loop-slot l = IsCountedTo l.space l.self l.counted.free l.slot
