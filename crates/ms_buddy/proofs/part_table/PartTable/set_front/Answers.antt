-- The front at the leaf's entry changes, and the root is split as it was.
use Rattle.std.proofs.Common.{◌/◌, List, sym, ap, subst, ◌∙◌, arith}
use Rattle.ms_base.specs.declared.span.Span.{Span}
use Rattle.ms_buddy.specs.Counts.{AreCounts}
use Rattle.ms_buddy.specs.FreeBits.{AreFreeBits}
use Rattle.ms_buddy.specs.Leaves.{with_front}
use Rattle.ms_buddy.proofs.LentPartLemmas.{IsLentHere, front_fits, lent_here}
use Rattle.ms_buddy.proofs.EntryChangeLemmas.{front_put, same_length}
use Rattle.ms_buddy.proofs.changes.FrontedLemmas.{fronted}
use Rattle.ms_buddy.proofs.KeptTreeLemmas.{kept_leaves}
use Rattle.ms_buddy.proofs.part_table.PartTable.set_front.Given.{Over}
use Rattle.ms_buddy.proofs.part_table.PartTable.set_front.Goals as goal
use Rattle.ms_buddy.proofs.part_table.PartTable.set_front.Goals.{After-self}

there : (g : Over) (c : After-self g)
    → IsLentHere c.self.inside.entries c.self.inside.counts c.self.inside.free.words c.self.inside.free.filled c.args.span
there g c = lent_here _ _ _ _ _ c.args.span c.self.invariant c.self.view_is c.requires.lent

pub change-requires-clause-within : goal.change-requires-clause-within
change-requires-clause-within g c = (there g (goal.at.change-requires-clause-within g c).After-self).at.within

pub change-requires-clause-few : goal.change-requires-clause-few
change-requires-clause-few g c =
    omega (arith, (there g (goal.at.change-requires-clause-few g c).After-self).root.in_root)

pub change-requires-clause-front : goal.change-requires-clause-front
change-requires-clause-front g c =
    front_fits c.args.span.level _ c.requires.front.0 (omega (arith, c.requires.front.1))

pub invariant_of-self : goal.invariant_of-self
invariant_of-self g c =
    let is = there g (goal.at.invariant_of-self g c).After-self in
    let done = fronted 0 0 is.kept.node c.args.span c.args.front is.kept.tree.tree is.there c.requires.front.0 c.requires.front.1 in
    rw (c.change.ensures is.at.lending is.at.there) (record {
      node = done.after;
      tree = record {
        tree = done.tree;
        counted = subst (λ (parts : List Span). AreCounts c.self.inside.counts parts) (sym done.parts) is.kept.tree.counted;
        marked = subst (λ (parts : List Span). AreFreeBits c.self.inside.free.words parts) (sym done.parts) is.kept.tree.marked;
        told = is.kept.tree.told;
      };
      lent_is = done.lent ∙ ap (with_front c.args.span c.args.front) is.kept.lent_is
          ∙ sym (front_put c.self.inside.entries c.args.span c.args.front is.at);
      some = rw (same_length c.self.inside.entries (c.args.span.start / 128) _) is.kept.some;
      room = λ split. same_length c.self.inside.entries (c.args.span.start / 128) _ ∙ is.kept.room (done.was split);
    })

pub returns-clause-front : goal.returns-clause-front
returns-clause-front g c =
    let is = there g (goal.at.returns-clause-front g c).After-self in
    rw (c.change.ensures is.at.lending is.at.there) (front_put c.self.inside.entries c.args.span c.args.front is.at
    ∙ ap (with_front c.args.span c.args.front) c.self.view_is)

pub returns-clause-leaves : goal.returns-clause-leaves
returns-clause-leaves g c = kept_leaves _ _ _ _ _ (invariant_of-self g c)
