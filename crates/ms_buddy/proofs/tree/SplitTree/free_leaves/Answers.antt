-- The free leaves of the tree are the free parts that its lent leaves leave over.
use Rattle.std.proofs.Common.{sym, ap, ◌∙◌}
use Rattle.ms_buddy.specs.Boxes.{shape_of}
use Rattle.ms_buddy.specs.Leaves.{free_of}
use Rattle.ms_buddy.proofs.FreeLeafLemmas.{free_of-tree}
use Rattle.ms_buddy.proofs.tree.SplitTree.free_leaves.Goals as goal

pub returns : goal.returns
returns g c =
    c.of_nodes.ensures ∙ sym (free_of-tree (shape_of c.self.inside.node) c.self.invariant) ∙ ap free_of c.self.view_is
