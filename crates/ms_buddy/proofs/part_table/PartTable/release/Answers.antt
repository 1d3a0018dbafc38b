-- The bits tell how far the part merges, and its entry is empty then.
use Rattle.std.proofs.Common.{◌/◌, [], ◌∷◌, Some, sym, ap, ◌∙◌, arith}
use Rattle.ms_buddy.specs.Counts.{beside, holder_of}
use Rattle.ms_buddy.specs.FreeBits.{IsMoved}
use Rattle.ms_buddy.specs.Leaves.{without_leaf}
use Rattle.ms_buddy.proofs.LentPartLemmas.{IsLentHere, Returns, lent_here, returned}
use Rattle.ms_buddy.proofs.EntryChangeLemmas.{release_put, same_length}
use Rattle.ms_buddy.proofs.searches.FoundLemmas.{alike}
use Rattle.ms_buddy.proofs.FreeLeafLemmas.{free_of-tree}
use Rattle.ms_buddy.proofs.bits.FreeNumberLemmas.{joined_bits, tree_may_join}
use Rattle.ms_buddy.proofs.counts.TreeCountLemmas.{joined_counts, room_to_join, some_to_join}
use Rattle.ms_buddy.proofs.KeptTreeLemmas.{kept_leaves}
use Rattle.ms_buddy.proofs.part_table.PartTable.release.Given.{Over}
use Rattle.ms_buddy.proofs.part_table.PartTable.release.Goals as goal
use Rattle.ms_buddy.proofs.part_table.PartTable.release.Goals.{After-self, After-merge-free}

-- What is known of the part, and what its release leaves.
there : (g : Over) (c : After-self g)
    → IsLentHere c.self.inside.entries c.self.inside.counts c.self.inside.free.words c.self.inside.free.filled c.args.span
there g c = lent_here _ _ _ _ _ c.args.span c.self.invariant c.self.view_is c.requires

left : (g : Over) (c : After-merge-free g)
    → (is : IsLentHere c.self.inside.entries c.self.inside.counts c.self.inside.free.words c.self.inside.free.filled c.args.span)
    → Returns c.self.inside.free.words c.args.span c.merge-free.result is.kept.node
left g c is =
    returned is.kept.node _ c.args.span c.merge-free.result is.root is.there
    (omega (arith, c.merge-free.ensures.low, c.number-lent.ensures.same)) c.merge-free.ensures.apart
    (λ below h k. c.merge-free.ensures.merged below h (omega (arith, k, c.number-lent.ensures.same)))

joined : (g : Over) (c : After-merge-free g)
    → (is : IsLentHere c.self.inside.entries c.self.inside.counts c.self.inside.free.words c.self.inside.free.filled c.args.span)
    → IsMoved c.merge-free.new.self.words (holder_of c.merge-free.result c.args.span ∷ [])
    (beside (holder_of c.merge-free.result c.args.span) c.args.span) c.self.inside.free.words
joined g c is =
    let done = left g c is in
    (rw c.number-lent.ensures.same at c.merge-free.ensures.bits)
    (tree_may_join _ is.kept.node done.after _ c.args.span done.tree is.kept.tree.marked is.root.in_root done.parted)

pub merge-free-requires-clause-in_root : goal.merge-free-requires-clause-in_root
merge-free-requires-clause-in_root g c =
    let is = there g (goal.at.merge-free-requires-clause-in_root g c).After-self in
    is.root.in_root

pub put-requires-clause-within : goal.put-requires-clause-within
put-requires-clause-within g c =
    let is = there g (goal.at.put-requires-clause-within g c).After-self in
    is.at.within

pub put-requires-clause-few : goal.put-requires-clause-few
put-requires-clause-few g c =
    let is = there g (goal.at.put-requires-clause-few g c).After-self in
    omega (arith, is.root.in_root)

pub join_counts-requires-clause-some : goal.join_counts-requires-clause-some
join_counts-requires-clause-some g c =
    let is = there g (goal.at.join_counts-requires-clause-some g c).After-self in
    let done = left g (goal.at.join_counts-requires-clause-some g c).After-merge-free is in
    rw c.number-lent.ensures.same
    (λ level h k. some_to_join _ _ _ (holder_of c.merge-free.result c.args.span) c.args.span
    is.kept.tree.counted done.parted level h k)

pub join_counts-requires-clause-room : goal.join_counts-requires-clause-room
join_counts-requires-clause-room g c =
    let is = there g (goal.at.join_counts-requires-clause-room g c).After-self in
    let done = left g (goal.at.join_counts-requires-clause-room g c).After-merge-free is in
    room_to_join _ _ done.after (holder_of c.merge-free.result c.args.span) c.args.span done.tree is.kept.tree.counted
    done.parted

pub start_of_holder-requires-clause-in_root : goal.start_of_holder-requires-clause-in_root
start_of_holder-requires-clause-in_root g c =
    let is = there g (goal.at.start_of_holder-requires-clause-in_root g c).After-self in
    is.root.in_root

pub invariant_of-self : goal.invariant_of-self
invariant_of-self g c =
    let is = there g (goal.at.invariant_of-self g c).After-self in
    let done = left g (goal.at.invariant_of-self g c).After-merge-free is in
    rw c.put.ensures (record {
      node = done.after;
      tree = record {
        tree = done.tree;
        counted = joined_counts _ _ _ _ (holder_of c.merge-free.result c.args.span) c.args.span is.kept.tree.counted
            done.parted (rw c.number-lent.ensures.same at c.join_counts.ensures);
        marked = joined_bits _ _ _ _ (holder_of c.merge-free.result c.args.span) c.args.span is.kept.tree.marked
            done.parted (joined g (goal.at.invariant_of-self g c).After-merge-free is);
        told = c.merge-free.ensures.filled is.kept.tree.told;
      };
      lent_is = done.lent ∙ ap (without_leaf c.args.span) is.kept.lent_is
          ∙ sym (release_put c.self.inside.entries c.args.span is.at);
      some = rw (same_length c.self.inside.entries (c.args.span.start / 128) _) is.kept.some;
      room = λ split. same_length c.self.inside.entries (c.args.span.start / 128) _ ∙ is.kept.room (done.was split);
    })

pub returns-clause-lent : goal.returns-clause-lent
returns-clause-lent g c =
    let is = there g (goal.at.returns-clause-lent g c).After-self in
    rw c.put.ensures (release_put c.self.inside.entries c.args.span is.at ∙ ap (without_leaf c.args.span) c.self.view_is)

pub returns-clause-free : goal.returns-clause-free
returns-clause-free g c =
    let is = there g (goal.at.returns-clause-free g c).After-self in
    let done = left g (goal.at.returns-clause-free g c).After-merge-free is in
    rw (
      c.put.ensures,
      release_put c.self.inside.entries c.args.span is.at,
      ← is.kept.lent_is,
      ← done.lent,
      free_of-tree done.after done.tree,
    )
    (done.found
    ∙ ap Some (sym (alike c.part.result (holder_of c.merge-free.result c.args.span)
    (c.part.ensures.start ∙ c.start_of_holder.ensures.start) c.part.ensures.level)))

pub returns-clause-leaves : goal.returns-clause-leaves
returns-clause-leaves g c = kept_leaves _ _ _ _ _ (invariant_of-self g c)
