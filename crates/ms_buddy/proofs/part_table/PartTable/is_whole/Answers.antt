-- The root is free exactly where no leaf is lent, and then its one free leaf is the whole.
use Rattle.std.proofs.Common.{ap, sym, ◌∙◌}
use Rattle.ms_buddy.specs.Leaves.{free_of}
use Rattle.ms_buddy.proofs.bits.FreeBitLemmas.{whole_by_bit}
use Rattle.ms_buddy.proofs.FreeLeafLemmas.{free_of-kept, free_of-none, free_tree, whole_tree, whole_tree_is_free}
use Rattle.ms_buddy.proofs.KeptTreeLemmas.{are_leaves}
use Rattle.ms_buddy.proofs.part_table.PartTable.is_whole.Goals as goal

pub returns-clause-whole : goal.returns-clause-whole
returns-clause-whole g c =
    let kept = c.self.invariant in
    let told = c.has.ensures ∙ whole_by_bit kept.node _ kept.tree.tree kept.tree.marked in (
      λ h. ap free_of (sym c.self.view_is ∙ sym kept.lent_is ∙ free_tree kept.node (sym told ∙ h)) ∙ free_of-none,
      λ h. told ∙ whole_tree_is_free kept.node kept.tree.tree
          (free_of-kept _ _ _ _ _ kept ∙ ap free_of c.self.view_is ∙ h),
    )

pub returns-clause-none_lent : goal.returns-clause-none_lent
returns-clause-none_lent g c =
    let kept = c.self.invariant in
    let told = c.has.ensures ∙ whole_by_bit kept.node _ kept.tree.tree kept.tree.marked in (
      λ h. sym c.self.view_is ∙ sym kept.lent_is ∙ free_tree kept.node (sym told ∙ h),
      λ h. told ∙ whole_tree kept.node kept.tree.tree (kept.lent_is ∙ c.self.view_is ∙ h),
    )

pub returns-clause-leaves : goal.returns-clause-leaves
returns-clause-leaves g c =
    rw (← c.self.view_is, ← c.self.invariant.lent_is) (are_leaves c.self.invariant.node c.self.invariant.tree.tree)
