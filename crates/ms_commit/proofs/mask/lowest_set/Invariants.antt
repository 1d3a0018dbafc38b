use Rattle.ms_commit.proofs.LowestLemmas.{NoneBelow}
use Rattle.ms_commit.proofs.mask.lowest_set.Given as goal

-- The words passed have no bit in the range.
abbrev pub invariant-loop-index : goal.invariant-loop-index
invariant-loop-index l = NoneBelow l.words l.first l.end l.index
