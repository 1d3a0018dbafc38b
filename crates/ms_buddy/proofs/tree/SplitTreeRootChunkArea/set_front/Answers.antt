-- What is true of the leaves of each tree is true of those that are left.
use Rattle.ms_buddy.specs.Boxes.{shape_of}
use Rattle.ms_buddy.proofs.KeptTreeLemmas.{are_leaves}
use Rattle.ms_buddy.proofs.tree.SplitTreeRootChunkArea.set_front.Goals as goal

pub returns-clause-leaves : goal.returns-clause-leaves
returns-clause-leaves g c = are_leaves (shape_of c.set_front.new.self) c.set_front.ensures.tree
