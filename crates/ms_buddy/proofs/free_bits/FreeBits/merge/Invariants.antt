-- The number is that of the part of a level there, and the buddies of the parts below it were free.
use Rattle.std.proofs.Common.{◌≡◌, ℕ, ◌<◌, ◌≤◌}
use Rattle.ms_buddy.specs.Counts.{beside, buddy_of, holder_of, number_of}
use Rattle.ms_buddy.specs.FreeBits.{ArePut, IsFilled, bit_of}
use Rattle.ms_buddy.specs.Leaves.{span_at}
use Rattle.ms_buddy.proofs.free_bits.FreeBits.merge.Given as goal

abbrev pub invariant-loop-free : goal.invariant-loop-free
invariant-loop-free l = record {
  low : l.free ≤ l.lent;
  number : l.number ≡ number_of (span_at l.at l.free);
  cleared : ArePut l.fn.self.words (beside (holder_of l.free (span_at l.at l.lent)) (span_at l.at l.lent)) 0 l.self.words;
  passed : (below : ℕ) → l.free < below → below ≤ l.lent
      → bit_of l.fn.self.words (buddy_of (number_of (span_at l.at below))) ≡ 1;
  filled : IsFilled l.fn.self.words l.fn.self.filled → IsFilled l.self.words l.self.filled;
}

abbrev pub decreases-loop-free : goal.decreases-loop-free
decreases-loop-free l = l.free
