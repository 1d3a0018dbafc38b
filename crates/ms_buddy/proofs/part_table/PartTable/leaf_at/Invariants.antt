-- No leaf of a level that was looked at covers the offset.
use Rattle.std.proofs.Common.{◌≡◌, ◌<◌, ℕ}
use Rattle.std.specs.Prelude.{IsFalse}
use Rattle.ms_buddy.specs.Counts.{holder_of, number_of}
use Rattle.ms_buddy.specs.FreeBits.{bit_of}
use Rattle.ms_buddy.specs.Leaves.{is_lent, span_at}
use Rattle.ms_buddy.proofs.part_table.PartTable.leaf_at.Given as goal

abbrev pub invariant-loop-level : goal.invariant-loop-level
invariant-loop-level g l = record {
  free : (level : ℕ) → level < l.level → bit_of l.self-inside.free.words (number_of (span_at l.offset level)) ≡ 0;
  lent : (level : ℕ) → level < l.level → IsFalse (is_lent l.self (holder_of level (span_at l.offset level)));
}
