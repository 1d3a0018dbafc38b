use Rattle.std.proofs.Common.{◌/◌, length, ap, arith}
use Rattle.std.proofs.lemmas.List.Elements.{recursion_from_All}
use Rattle.ms_base.specs.Level.{root_words}
use Rattle.ms_buddy.specs.Leaves.{AreLeaves}
use Rattle.ms_pool.specs.Trees.{TreesState}
use Rattle.ms_pool.proofs.searches.IndexLemmas.{exact_again}
use Rattle.ms_pool.proofs.returns.ReleasedTreeLemmas.{leaf_there}
use Rattle.ms_pool.proofs.trees.put_back.Goals as goal

pub index-requires : goal.index-requires
index-requires c =
    let trees = c.args.trees.now.items in
    omega (
      arith,
      c.trees.inside.trees.ok.0,
      ap (λ (all : TreesState). length all.items) c.trees.view_is,
      (leaf_there trees c.args.chunk.now (recursion_from_All AreLeaves trees c.requires.leaves) c.requires.lent).0,
    )

pub returns : goal.returns
returns c = rw (← c.trees.view_is) (record {
  loans = c.put_back_leaf-part.ensures.loans;
  leaves = c.put_back_leaf-part.ensures.leaves;
  count = c.put_back_leaf-part.ensures.count;
  there = c.put_back_leaf-part.ensures.there;
  free = c.put_back_leaf-part.ensures.free;
})

-- The index is exact again.
pub invariant_of-trees : goal.invariant_of-trees
invariant_of-trees c =
    exact_again c.trees.inside.index c.tell.new.self c.trees.inside.trees.items c.put_back_leaf-part.new.trees.items
    (c.args.chunk.now.start / root_words) c.free_levels-levels.result c.index.result.now c.trees.invariant
    c.put_back_leaf-part.ensures.count c.put_back_leaf-part.ensures.others c.tell.ensures.here c.tell.ensures.others
    c.index.ensures c.free_levels-levels.ensures
