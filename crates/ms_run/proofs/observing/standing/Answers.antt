use Rattle.std.proofs.Common.{ap, arith}
use Rattle.ms_pool.specs.declared.pool.counts.LimitCounts.{LimitCounts}
use Rattle.ms_run.proofs.metered.AmountLemmas.{are_added, stands_so}
use Rattle.ms_run.proofs.observing.standing.Goals as goal

pub overflow_add-result-2 : goal.overflow_add-result-2
overflow_add-result-2 c =
    let added = are_added c.args.system.now c.args.amounts c.requires.good c.requires.amounts in omega (arith, added.0)

pub overflow_add-result-3 : goal.overflow_add-result-3
overflow_add-result-3 c =
    let added = are_added c.args.system.now c.args.amounts c.requires.good c.requires.amounts in omega (arith, added.1)

pub class_committed-requires-clause-nodes : goal.class_committed-requires-clause-nodes
class_committed-requires-clause-nodes c = ap (λ (counts : LimitCounts). counts.class_nodes) c.counts-counts.ensures

pub returns : goal.returns
returns c =
    stands_so c.args.system.now c.counts-counts.result c.args.amounts c.from.result c.from-class_reserved.result c.committed.result
    c.class_committed.result c.loader_count.result c.counts-counts.ensures c.requires.amounts c.from.ensures
    c.from-class_reserved.ensures c.committed.ensures c.class_committed.ensures c.loader_count.ensures
