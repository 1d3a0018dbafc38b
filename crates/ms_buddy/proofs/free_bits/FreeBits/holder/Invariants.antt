-- The number is that of the part of a level there, and no part of a lower level there is free.
use Rattle.std.proofs.Common.{◌≡◌, ℕ, ◌<◌, ◌≤◌}
use Rattle.ms_buddy.specs.Counts.{number_of}
use Rattle.ms_buddy.specs.FreeBits.{bit_of}
use Rattle.ms_buddy.specs.Leaves.{span_at}
use Rattle.ms_buddy.proofs.free_bits.FreeBits.holder.Given as goal

abbrev pub invariant-loop-level : goal.invariant-loop-level
invariant-loop-level l = record {
  low : l.holder ≤ l.level;
  number : l.number ≡ number_of (span_at l.at l.holder);
  before : (other : ℕ) → l.holder < other → other ≤ l.level → bit_of l.self.words (number_of (span_at l.at other)) ≡ 0;
}

abbrev pub decreases-loop-level : goal.decreases-loop-level
decreases-loop-level l = l.holder
