-- The free leaves of the tree are the free parts that its lent leaves leave over.
use Rattle.std.proofs.Common.{sym, ap, ◌∙◌}
use Rattle.ms_buddy.specs.Boxes.{shape_of}
use Rattle.ms_buddy.specs.Leaves.{free_of}
use Rattle.ms_buddy.proofs.FreeLeafLemmas.{free_of-tree}
use Rattle.ms_buddy.proofs.boxes.BoxLemmas.{leaf_is_lent}
use Rattle.ms_buddy.proofs.tree.SplitTreeRootChunkArea.leaf_at.Goals as goal

pub returns-clause-leaf : goal.returns-clause-leaf
returns-clause-leaf g c =
    let e = sym (ap free_of c.self.view_is) ∙ free_of-tree (shape_of c.self.inside.node) c.self.invariant in
    rw (e, ← c.self.view_is) c.leaf_at.ensures.leaf

pub returns-clause-lent : goal.returns-clause-lent
returns-clause-lent g c differs =
    rw (← c.self.view_is) (leaf_is_lent _ _ _ _ _ c.leaf_at.ensures.leaf differs)
