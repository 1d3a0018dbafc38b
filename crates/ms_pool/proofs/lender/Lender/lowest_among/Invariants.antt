use Rattle.std.proofs.Common.{◌-◌}
use Rattle.ms_pool.proofs.searches.SlotLoopLemmas.{end_slot}
use Rattle.ms_pool.proofs.searches.SkipLemmas.{IsLookedTo}
use Rattle.ms_pool.proofs.lender.Lender.lowest_among.Given as goal

-- What is found first lies in the slots that are left.
abbrev pub invariant-loop-root : goal.invariant-loop-root
invariant-loop-root l = IsLookedTo l.wish.space l.self l.wish.words l.wish.committed l.level l.slot

abbrev pub decreases-loop-root : goal.decreases-loop-root
decreases-loop-root l = end_slot l.wish.space l.self.nodes - l.slot
