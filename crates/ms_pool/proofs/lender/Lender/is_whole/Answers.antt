use Rattle.std.proofs.Common.{Bool, ◌&&◌, sym, ap, ◌∙◌}
use Rattle.std.proofs.lemmas.List.Elements.{recursion_from_All}
use Rattle.ms_buddy.specs.Leaves.{AreLeaves}
use Rattle.ms_pool.proofs.WholeRootLemmas.{by_read, whole_slot}
use Rattle.ms_pool.proofs.lender.Lender.is_whole.Goals as goal

pub returns-then-lower : goal.returns-then-lower
returns-then-lower c =
    let trees = c.args.self.now.trees.items in
    sym (ap (λ (b : Bool). b && c.is_whole-upper.result) c.if-lower.true)
    ∙ whole_slot trees c.args.slot c.is_whole-lower.result c.is_whole-upper.result
    (recursion_from_All AreLeaves trees c.requires.leaves) c.requires.low
    (by_read c.is_whole-lower.result c.tree.result.now _ c.tree.ensures c.is_whole-lower.ensures.none_lent)
    (by_read c.is_whole-upper.result c.tree-2.result.now _ c.tree-2.ensures c.is_whole-upper.ensures.none_lent)

pub returns-else-lower : goal.returns-else-lower
returns-else-lower c =
    let trees = c.args.self.now.trees.items in
    c.if-lower.false
    ∙ sym (ap (λ (b : Bool). b && c.is_whole-upper.result) c.if-lower.false)
    ∙ whole_slot trees c.args.slot c.is_whole-lower.result c.is_whole-upper.result
    (recursion_from_All AreLeaves trees c.requires.leaves) c.requires.low
    (by_read c.is_whole-lower.result c.tree.result.now _ c.tree.ensures c.is_whole-lower.ensures.none_lent)
    (by_read c.is_whole-upper.result c.tree-2.result.now _ c.tree-2.ensures c.is_whole-upper.ensures.none_lent)
