use Rattle.std.proofs.Common.{◌≡◌, ℕ, ◌*◌, ◌<◌, ◌≤◌, ◌&&◌, get_or, not, length}
use Rattle.std.specs.Prelude.{nat_le, nat_lt}
use Rattle.ms_commit.specs.Mask.{is_set}
use Rattle.ms_commit.proofs.CountLemmas.{set_within}
use Rattle.ms_commit.proofs.mask.clear_bits.Given as goal

-- The range's numbers below the word reached are clear, and those that were set are counted.
abbrev pub invariant-loop-index : goal.invariant-loop-index
invariant-loop-index l = record {
  clear : (k : ℕ) → k < 64 * length l.words
      → is_set l.words k ≡ (is_set l.fn.words k && not (nat_le l.first k && nat_lt k l.end && nat_lt k (64 * l.index)));
  left : (row : ℕ) → l.index ≤ row → get_or l.words row 0 ≡ get_or l.fn.words row 0;
  counted : l.count ≡ set_within l.fn.words l.first l.end (64 * l.index);
}
