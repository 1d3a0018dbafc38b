use Rattle.std.proofs.Common.{◌≡◌, ◌*◌}
use Rattle.ms_commit.proofs.CountLemmas.{set_within}
use Rattle.ms_commit.proofs.mask.count_bits.Given as goal

-- The range's set numbers below the word reached are counted.
abbrev pub invariant-loop-index : goal.invariant-loop-index
invariant-loop-index l = l.count ≡ set_within l.words l.first l.end (64 * l.index)
