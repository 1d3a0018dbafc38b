-- The root is free exactly where no leaf is lent, and then its one free leaf is the whole.
use Rattle.std.proofs.Common.{ap, sym, ◌∙◌}
use Rattle.ms_buddy.specs.Boxes.{shape_of}
use Rattle.ms_buddy.specs.Leaves.{free_of}
use Rattle.ms_buddy.proofs.FreeLeafLemmas.{free_of-tree, free_of-none, free_tree, whole_tree, whole_tree_is_free}
use Rattle.ms_buddy.proofs.KeptTreeLemmas.{are_leaves}
use Rattle.ms_buddy.proofs.tree.SplitTreeRootChunkArea.is_whole.Goals as goal

pub returns-clause-whole : goal.returns-clause-whole
returns-clause-whole g c = (
  λ h. ap free_of (sym c.self.view_is ∙ free_tree (shape_of c.self.inside.node) (sym c.is_free.ensures ∙ h))
      ∙ free_of-none,
  λ h. c.is_free.ensures ∙ whole_tree_is_free (shape_of c.self.inside.node) c.self.invariant
      (sym (free_of-tree (shape_of c.self.inside.node) c.self.invariant) ∙ ap free_of c.self.view_is ∙ h),
)

pub returns-clause-none_lent : goal.returns-clause-none_lent
returns-clause-none_lent g c = (
  λ h. sym c.self.view_is ∙ free_tree (shape_of c.self.inside.node) (sym c.is_free.ensures ∙ h),
  λ h. c.is_free.ensures ∙ whole_tree (shape_of c.self.inside.node) c.self.invariant (c.self.view_is ∙ h),
)

pub returns-clause-leaves : goal.returns-clause-leaves
returns-clause-leaves g c = rw (← c.self.view_is) (are_leaves (shape_of c.self.inside.node) c.self.invariant)
