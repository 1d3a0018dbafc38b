use Rattle.std.proofs.Common.{[], take}
use Rattle.ms_pool.specs.Counting.{Moves}
use Rattle.ms_pool.proofs.lent.discount_chunks.Given as goal

-- The first chunks are gone.
abbrev pub invariant-loop-index : goal.invariant-loop-index
invariant-loop-index l = Moves l.fn.counted (take l.index l.account.chunks) [] l.counted
