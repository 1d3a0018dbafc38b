-- The numbers passed have no bit set.
use Rattle.std.proofs.Common.{◌-◌, ◌≤◌}
use Rattle.ms_buddy.proofs.bits.BitLemmas.{NoneSet}
use Rattle.ms_buddy.proofs.free_bits.FreeBits.next_filled.Given as goal

abbrev pub invariant-loop-at : goal.invariant-loop-at
invariant-loop-at l = record { low : l.from ≤ l.at; high : l.at ≤ 128; before : NoneSet l.self.filled l.from l.at }

abbrev pub decreases-loop-at : goal.decreases-loop-at
decreases-loop-at l = 128 - l.at
