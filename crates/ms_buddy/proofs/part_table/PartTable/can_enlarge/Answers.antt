-- A leader's buddy is its follower, whose bit tells whether it is one free leaf.
use Rattle.std.proofs.Common.{◌≤◌, ℕ, ◌+◌, ◌*◌, ◌%◌, sym, ap, subst, ◌∙◌, arith}
use Rattle.std.specs.Prelude.{◌==◌}
use Rattle.std.specs.List.{list_any}
use Rattle.ms_base.specs.Level.{highest_level, size_of}
use Rattle.ms_buddy.specs.FreeBits.{bit_of}
use Rattle.ms_buddy.specs.Leaves.{AreLeaves, free_of, is_same, span_at}
use Rattle.ms_buddy.proofs.bits.FreeBitLemmas.{free_by_bit}
use Rattle.ms_buddy.proofs.FreeLeafLemmas.{free_of-kept}
use Rattle.ms_buddy.proofs.KeptTreeLemmas.{are_leaves}
use Rattle.ms_buddy.proofs.changes.LeaderLemmas.{IsLeaderThere, follower_cannot, follower_part, leader_can, leader_there, parent_size, root_cannot}
use Rattle.ms_buddy.proofs.part_table.PartTable.can_enlarge.Given.{Over}
use Rattle.ms_buddy.proofs.part_table.PartTable.can_enlarge.Goals.{Else-span-words-ne0, then-level-eq0-via-then-level-eq0}
use Rattle.ms_buddy.proofs.part_table.PartTable.can_enlarge.Goals.{then-level-eq0-via-else-level-eq0+then-span-words-ne0}
use Rattle.ms_buddy.proofs.part_table.PartTable.can_enlarge.Goals as goal

pub returns-then-level-eq0 : goal.returns-then-level-eq0
returns-then-level-eq0 g c = elim c.then-level-eq0.branch [
  | then-level-eq0-via-then-level-eq0 w ↦
      sym (root_cannot c.args.span.start c.args.span.level (free_of c.args.self.now)
      (sym c.number-level.ensures.same ∙ w.if-level-eq0.true))
  | then-level-eq0-via-else-level-eq0+then-span-words-ne0 w ↦
      let low : c.args.span.level ≤ highest_level = omega (arith, c.number-level.ensures.same, c.number-level.ensures.below) in
      let twice =
      ap (λ (n : ℕ). 2 * n) (c.words_of-words.ensures.size ∙ ap size_of c.number-level.ensures.same)
      ∙ parent_size c.args.span.level (omega (arith, c.number-level.ensures.same, w.if-level-eq0.false)) low in
      sym (follower_cannot c.args.span.start c.args.span.level (free_of c.args.self.now)
      (λ whole. w.if-span-words-ne0.true (ap (λ (n : ℕ). c.args.span.start % n) twice ∙ whole)))
]

-- Past both tests the part is a leader, whose follower lies in the root.
there : (g : Over) (c : Else-span-words-ne0 g)
    → IsLeaderThere c.args.self.now c.args.span.start c.args.span.level c.words_of-words.result
there g c =
    let kept = c.self.invariant in
    leader_there c.args.self.now c.args.span.start c.args.span.level c.number-level.result c.words_of-words.result
    (subst AreLeaves (kept.lent_is ∙ c.self.view_is) (are_leaves kept.node kept.tree.tree)) c.requires
    c.number-level.ensures.same c.number-level.ensures.below c.if-level-eq0.false
    (c.words_of-words.ensures.size ∙ ap size_of c.number-level.ensures.same) c.if-span-words-ne0.false

pub overflow_add-span : goal.overflow_add-span
overflow_add-span g c = omega (arith, (there g (goal.at.overflow_add-span g c).Else-span-words-ne0).within)

pub number-requires-clause-in_root : goal.number-requires-clause-in_root
number-requires-clause-in_root g c =
    omega (arith, (there g (goal.at.number-requires-clause-in_root g c).Else-span-words-ne0).within)

pub returns : goal.returns
returns g c =
    let kept = c.self.invariant in
    let leads = there g (goal.at.returns g c).Else-span-words-ne0 in
    let size = c.words_of-words.ensures.size ∙ ap size_of c.number-level.ensures.same in
    c.has.ensures
    ∙ ap (λ (n : ℕ). bit_of c.self.inside.free.words n == 1)
    (rw (size, c.number-level.ensures.same) at c.number.ensures.same)
    ∙ free_by_bit kept.node c.self.inside.free.words (span_at (c.args.span.start + size_of c.args.span.level) c.args.span.level)
    kept.tree.tree kept.tree.marked
    (follower_part c.args.span.start c.args.span.level leads.some leads.leads leads.placed leads.low
    (rw size at leads.within))
    ∙ ap (list_any (is_same (span_at (c.args.span.start + size_of c.args.span.level) c.args.span.level)))
    (free_of-kept _ _ _ _ _ kept ∙ ap free_of c.self.view_is)
    ∙ sym (leader_can c.args.span.start c.args.span.level (free_of c.args.self.now) leads.some leads.leads)
