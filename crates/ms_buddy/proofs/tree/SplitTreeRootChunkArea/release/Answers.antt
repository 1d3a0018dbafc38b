-- The free leaves of the tree are the free parts that its lent leaves leave over.
use Rattle.ms_buddy.specs.Boxes.{shape_of}
use Rattle.ms_buddy.proofs.FreeLeafLemmas.{free_of-tree}
use Rattle.ms_buddy.proofs.KeptTreeLemmas.{are_leaves}
use Rattle.ms_buddy.proofs.tree.SplitTreeRootChunkArea.release.Goals as goal

pub returns-clause-free : goal.returns-clause-free
returns-clause-free g c = rw (free_of-tree (shape_of c.release.new.self) c.release.ensures.tree) c.release.ensures.free

pub returns-clause-leaves : goal.returns-clause-leaves
returns-clause-leaves g c = are_leaves (shape_of c.release.new.self) c.release.ensures.tree
