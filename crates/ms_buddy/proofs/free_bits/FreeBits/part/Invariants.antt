-- The number is that of the part of a level there, and the halves beside the way up to it are free.
use Rattle.std.proofs.Common.{◌≡◌, ◌-◌, ◌≤◌}
use Rattle.ms_buddy.specs.Counts.{beside, holder_of, number_of}
use Rattle.ms_buddy.specs.FreeBits.{ArePut, IsFilled}
use Rattle.ms_buddy.specs.Leaves.{span_at}
use Rattle.ms_buddy.proofs.free_bits.FreeBits.part.Given as goal

abbrev pub invariant-loop-level : goal.invariant-loop-level
invariant-loop-level l = record {
  high : l.free ≤ l.level;
  low : l.level ≤ l.lent;
  number : l.number ≡ number_of (span_at l.at l.level);
  put : ArePut l.fn.self.words (beside (holder_of l.level (span_at l.at l.lent)) (span_at l.at l.lent)) 1 l.self.words;
  filled : IsFilled l.fn.self.words l.fn.self.filled → IsFilled l.self.words l.self.filled;
}

abbrev pub decreases-loop-level : goal.decreases-loop-level
decreases-loop-level l = l.level - l.free
