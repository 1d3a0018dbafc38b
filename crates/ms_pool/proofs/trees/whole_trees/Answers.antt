use Rattle.std.proofs.Common.{arith}
use Rattle.std.proofs.lemmas.List.{replicate_more}
use Rattle.ms_pool.proofs.trees.whole_trees.Goals as goal

-- One tree more.
pub loop-preserved : goal.loop-preserved
loop-preserved c = (
  rw (c.push_reserved.ensures.items, c.loop.invariant.0, c.new.ensures) (replicate_more c.loop.counter _),
  omega (arith, c.push_reserved.ensures.len, c.loop.invariant.1),
  omega (arith, c.push_reserved.ensures.capacity, c.loop.invariant.2),
)
