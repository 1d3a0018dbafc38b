-- The follower's bit is cleared, and a larger part stands at the leader's entry.
use Rattle.std.proofs.Common.{◌-◌, ◌/◌, ℕ, sym, ap, ◌∙◌, arith}
use Rattle.ms_base.specs.Level.{size_of}
use Rattle.ms_buddy.specs.Counts.{follower_of}
use Rattle.ms_buddy.specs.Leaves.{can_enlarge, free_of, with_parent}
use Rattle.ms_buddy.proofs.LentPartLemmas.{IsLentHere, follower_in_root, front_fits, lent_here, may_become}
use Rattle.ms_buddy.proofs.EntryChangeLemmas.{parent_put}
use Rattle.ms_buddy.proofs.EntryChangeLemmas.{same_length}
use Rattle.ms_buddy.proofs.changes.EnlargedLemmas.{MayBecome, enlarged}
use Rattle.ms_buddy.proofs.FreeLeafLemmas.{free_of-kept}
use Rattle.ms_buddy.proofs.bits.FreeNumberLemmas.{enlarged_bits}
use Rattle.ms_buddy.proofs.counts.TreeCountLemmas.{parted_counts, room_to_part, some_to_part}
use Rattle.ms_buddy.proofs.KeptTreeLemmas.{kept_leaves}
use Rattle.ms_buddy.proofs.part_table.PartTable.enlarge.Given.{Over}
use Rattle.ms_buddy.proofs.part_table.PartTable.enlarge.Goals as goal
use Rattle.ms_buddy.proofs.part_table.PartTable.enlarge.Goals.{After-self, Else-not-can_enlarge}

-- What is known of the part, and that it may become its parent.
there : (g : Over) (c : After-self g)
    → IsLentHere c.self.inside.entries c.self.inside.counts c.self.inside.free.words c.self.inside.free.filled c.args.span
there g c = lent_here _ _ _ _ _ c.args.span c.self.invariant c.self.view_is c.requires.lent

can : (g : Over) (c : Else-not-can_enlarge g)
    → (is : IsLentHere c.self.inside.entries c.self.inside.counts c.self.inside.free.words c.self.inside.free.filled c.args.span)
    → MayBecome 0 0 c.args.span c.args.front is.kept.node
can g c is =
    may_become _ _ _ _ _ c.self.inside.entries c.args.span c.args.front is c.requires.front.0 c.requires.front.1
    (ap (can_enlarge c.args.span) (free_of-kept _ _ _ _ _ is.kept ∙ ap free_of c.self.view_is) ∙ sym c.if-not-can_enlarge.ensures)

pub overflow_add-start : goal.overflow_add-start
overflow_add-start g c =
    let is = there g (goal.at.overflow_add-start g c).After-self in
    let may = can g (goal.at.overflow_add-start g c).Else-not-can_enlarge is in
    omega (arith, follower_in_root _ _ _ _ _ c.self.inside.entries c.args.span is may.can, c.words_of.ensures.size, ap size_of c.number-level.ensures.same)

pub number-follower-requires-clause-in_root : goal.number-follower-requires-clause-in_root
number-follower-requires-clause-in_root g c =
    let is = there g (goal.at.number-follower-requires-clause-in_root g c).After-self in
    let may = can g (goal.at.number-follower-requires-clause-in_root g c).Else-not-can_enlarge is in
    omega (arith, follower_in_root _ _ _ _ _ c.self.inside.entries c.args.span is may.can, c.words_of.ensures.size, ap size_of c.number-level.ensures.same)

pub change-requires-clause-within : goal.change-requires-clause-within
change-requires-clause-within g c =
    let is = there g (goal.at.change-requires-clause-within g c).After-self in
    is.at.within

pub change-requires-clause-few : goal.change-requires-clause-few
change-requires-clause-few g c =
    let is = there g (goal.at.change-requires-clause-few g c).After-self in
    omega (arith, is.root.in_root)

pub change-requires-clause-front : goal.change-requires-clause-front
change-requires-clause-front g c =
    front_fits c.args.span.level _ c.requires.front.0 c.requires.front.1

pub part_counts-requires-clause-some : goal.part_counts-requires-clause-some
part_counts-requires-clause-some g c =
    let is = there g (goal.at.part_counts-requires-clause-some g c).After-self in
    let may = can g (goal.at.part_counts-requires-clause-some g c).Else-not-can_enlarge is in
    let done = enlarged 0 0 is.kept.node c.args.span c.args.front may in
    rw c.number-level.ensures.same
    (some_to_part _ _ _ (follower_of c.args.span) (follower_of c.args.span) is.kept.tree.counted done.parted)

pub part_counts-requires-clause-room : goal.part_counts-requires-clause-room
part_counts-requires-clause-room g c =
    room_to_part _ c.self.invariant.node c.self.invariant.tree.tree c.self.invariant.tree.counted

pub invariant_of-self : goal.invariant_of-self
invariant_of-self g c =
    let is = there g (goal.at.invariant_of-self g c).After-self in
    let may = can g (goal.at.invariant_of-self g c).Else-not-can_enlarge is in
    let done = enlarged 0 0 is.kept.node c.args.span c.args.front may in
    rw (c.change.ensures is.at.lending is.at.there) (record {
      node = done.after;
      tree = record {
        tree = done.tree;
        counted = parted_counts _ _ _ _ (follower_of c.args.span) (follower_of c.args.span) is.kept.tree.counted done.parted
            (rw c.number-level.ensures.same at c.part_counts.ensures);
        marked = enlarged_bits _ _ _ _ (follower_of c.args.span) _
            (rw (c.words_of.ensures.size, c.number-level.ensures.same) at c.number-follower.ensures.same)
            is.kept.tree.marked done.parted c.put.ensures.bits;
        told = c.put.ensures.filled is.kept.tree.told;
      };
      lent_is = done.lent ∙ ap (with_parent c.args.span c.args.front) is.kept.lent_is
          ∙ sym (parent_put c.self.inside.entries c.args.span c.args.front _ is.at
          (c.new.ensures ∙ ap (λ (n : ℕ). n - 1) c.number-level.ensures.same));
      some = rw (same_length c.self.inside.entries (c.args.span.start / 128) _) is.kept.some;
      room = λ split. same_length c.self.inside.entries (c.args.span.start / 128) _ ∙ is.kept.room (done.was split);
    })

pub returns-clause-lent : goal.returns-clause-lent
returns-clause-lent g c =
    let is = there g (goal.at.returns-clause-lent g c).After-self in
    rw (c.change.ensures is.at.lending is.at.there) (parent_put c.self.inside.entries c.args.span c.args.front _ is.at
    (c.new.ensures ∙ ap (λ (n : ℕ). n - 1) c.number-level.ensures.same) ∙ ap (with_parent c.args.span c.args.front) c.self.view_is)

pub returns-clause-leaves : goal.returns-clause-leaves
returns-clause-leaves g c = kept_leaves _ _ _ _ _ (invariant_of-self g c)
