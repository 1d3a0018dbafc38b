use Rattle.std.proofs.Common.{[], length, ap, ◌∙◌}
use Rattle.std.proofs.lemmas.List.{length-replicate}
use Rattle.ms_pool.proofs.searches.IndexLemmas.{index_of_whole}
use Rattle.ms_pool.proofs.trees.Trees.whole.Goals as goal

pub invariant_of-result : goal.invariant_of-result
invariant_of-result c =
    index_of_whole c.args.count c.whole-index.result c.in_ok-trees.trees.items c.requires c.whole-index.ensures
    c.in_ok-trees.ensures
    (ap length c.in_ok-trees.ensures ∙ length-replicate c.args.count [])
