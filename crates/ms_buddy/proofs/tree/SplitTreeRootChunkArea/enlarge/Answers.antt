-- The free leaves of the tree are the free parts that its lent leaves leave over.
use Rattle.std.proofs.Common.{rules, sym, ap, ◌∙◌}
use Rattle.ms_buddy.specs.Boxes.{shape_of}
use Rattle.ms_buddy.specs.Leaves.{free_of}
use Rattle.ms_buddy.proofs.FreeLeafLemmas.{free_of-tree}
use Rattle.ms_buddy.proofs.KeptTreeLemmas.{are_leaves}
use Rattle.ms_buddy.proofs.tree.SplitTreeRootChunkArea.enlarge.Goals as goal
use Rattle.ms_buddy.proofs.tree.SplitTreeRootChunkArea.enlarge.Goals.{in-Ok, in-Err}

pub returns-clause-room : goal.returns-clause-room
returns-clause-room g c =
    let e = sym (ap free_of c.self.view_is) ∙ free_of-tree (shape_of c.self.inside.node) c.self.invariant in
    rw e (elim c.match-enlarge.branch [ in-Ok w ↦ search rules | in-Err w ↦ search rules ])

pub returns-clause-leaves : goal.returns-clause-leaves
returns-clause-leaves g c =
    let leaves = are_leaves (shape_of c.enlarge.new.self) c.enlarge.ensures.stays.0 in
    elim c.match-enlarge.branch [ in-Ok w ↦ search (rules, leaves) | in-Err w ↦ search (rules, leaves) ]
