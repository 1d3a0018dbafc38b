-- The numbers passed have no bit set.
use Rattle.std.proofs.Common.{◌-◌, ◌≤◌}
use Rattle.ms_buddy.proofs.bits.BitLemmas.{NoneSet}
use Rattle.ms_buddy.proofs.free_bits.FreeBits.next.Given as goal

abbrev pub invariant-loop-at : goal.invariant-loop-at
invariant-loop-at l = record { low : l.from ≤ l.at; before : NoneSet l.self.words l.from l.at }

abbrev pub decreases-loop-at : goal.decreases-loop-at
decreases-loop-at l = l.end - l.at
