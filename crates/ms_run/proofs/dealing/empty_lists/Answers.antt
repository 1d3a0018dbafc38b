use Rattle.std.proofs.Common.{arith}
use Rattle.ms_run.proofs.sharing.ListingLemmas.{empty_first, empty_more}
use Rattle.ms_run.proofs.dealing.empty_lists.Goals as goal

pub loop-init : goal.loop-init
loop-init c = (empty_first _ c.in_ok-lists.ensures.items, c.in_ok-lists.ensures.len, c.in_ok-lists.ensures.capacity)

pub push_reserved-requires : goal.push_reserved-requires
push_reserved-requires c = omega (arith, c.loop-test.true, c.loop.invariant.1, c.loop.invariant.2)

pub loop-preserved : goal.loop-preserved
loop-preserved c = (
  empty_more c.loop.lists.items _ _ c.loop.invariant.0 c.push_reserved.ensures.items c.in_ok-list.ensures.items,
  omega (arith, c.push_reserved.ensures.len, c.loop.invariant.1),
  omega (arith, c.push_reserved.ensures.capacity, c.loop.invariant.2),
)

pub returns-clause-listed : goal.returns-clause-listed
returns-clause-listed c = c.loop.invariant.0

pub returns-clause-count : goal.returns-clause-count
returns-clause-count c = omega (arith, c.loop.invariant.1, c.loop-test.false, c.loop.auto.counter-end)
