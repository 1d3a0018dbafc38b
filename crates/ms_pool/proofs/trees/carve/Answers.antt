use Rattle.std.proofs.Common.{◌/◌}
use Rattle.ms_base.specs.Level.{root_words}
use Rattle.ms_pool.proofs.searches.IndexLemmas.{exact_again}
use Rattle.ms_pool.proofs.trees.carve.Goals as goal

-- The index is exact again.
pub invariant_of-trees : goal.invariant_of-trees
invariant_of-trees c =
    exact_again c.trees.inside.index c.tell.new.self c.trees.inside.trees.items c.carve_leaf-lent.new.trees.items
    (c.args.chunk.now.start / root_words) c.free_levels-levels.result c.index.result.now c.trees.invariant
    c.carve_leaf-lent.ensures.count c.carve_leaf-lent.ensures.others c.tell.ensures.here c.tell.ensures.others
    c.index.ensures c.free_levels-levels.ensures
