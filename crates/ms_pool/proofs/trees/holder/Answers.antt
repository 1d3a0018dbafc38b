use Rattle.std.proofs.Common.{◌≤◌, ◌/◌, length, ap, sym, ◌∙◌, arith}
use Rattle.std.proofs.lemmas.List.Elements.{recursion_from_All}
use Rattle.ms_base.specs.Level.{root_words}
use Rattle.ms_buddy.specs.Leaves.{AreLeaves}
use Rattle.ms_pool.proofs.OwnerLemmas.{no_owner_past, owner_in_root, owner_told}
use Rattle.ms_pool.proofs.trees.holder.Goals as goal

-- past the last tree there is no owner
pub returns-then-root-len : goal.returns-then-root-len
returns-then-root-len c =
    let past : length c.args.trees.now.items ≤ c.args.word / root_words =
    rw (← c.trees.view_is) (omega (arith, c.if-root-len.true, c.len.ensures, c.trees.inside.trees.ok.0)) in
    sym (no_owner_past c.args.trees.now.items c.args.word
    (recursion_from_All AreLeaves c.args.trees.now.items c.requires) past)

-- else the leaf tells the owner
pub returns-in-Lent : goal.returns-in-Lent
returns-in-Lent c =
    sym (owner_in_root c.args.trees.now.items c.args.word c.leaf_at-leaf.result.1 c.leaf_at-leaf.result.0
    (recursion_from_All AreLeaves c.args.trees.now.items c.requires) c.leaf_at-leaf.ensures.covers
    (rw c.tree.ensures at c.leaf_at-leaf.ensures.leaf) ∙ ap owner_told c.in-Lent.is)

pub returns-in-Free : goal.returns-in-Free
returns-in-Free c =
    sym (owner_in_root c.args.trees.now.items c.args.word c.leaf_at-leaf.result.1 c.leaf_at-leaf.result.0
    (recursion_from_All AreLeaves c.args.trees.now.items c.requires) c.leaf_at-leaf.ensures.covers
    (rw c.tree.ensures at c.leaf_at-leaf.ensures.leaf) ∙ ap owner_told c.in-Free.is)
