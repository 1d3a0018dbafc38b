use Rattle.std.proofs.Common.{rules, sym, ◌∙◌, arith, inl, inr}
use Rattle.std.proofs.lemmas.List.Elements.{recursion_from_All}
use Rattle.ms_base.specs.Part.{slot_of}
use Rattle.ms_buddy.specs.Leaves.{AreLeaves}
use Rattle.ms_pool.specs.Growing.{has_room}
use Rattle.ms_pool.proofs.loans.LentPartLemmas.{front_is_low, front_is_reserved, front_lacks, front_within}
use Rattle.ms_pool.proofs.loans.ShownLemmas.{kept_where_shown}
use Rattle.ms_pool.proofs.growths.ParentLemmas.{parents_alike}
use Rattle.ms_pool.proofs.growths.RaisedPartLemmas.{grown_shows, reserved_too, stays_reserved}
use Rattle.ms_pool.proofs.returns.ReleasedTreeLemmas.{leaf_there}
use Rattle.ms_pool.proofs.lender.Lender.replace.Goals as goal

pub raise-requires-clause-may : goal.raise-requires-clause-may
unfolding has_room
raise-requires-clause-may c =
    let trees = c.args.self.now.trees.items in
    let leaf =
    leaf_there trees c.args.chunk.now (recursion_from_All AreLeaves trees c.requires.kept.leaves)
    c.requires.own.lent in
    record {
      there = omega (arith, leaf.0);
      lent = leaf.1;
      low = c.requires.may.low;
      start = c.requires.may.start;
      some = c.requires.may.some;
      within = c.requires.may.within;
      grows = elim c.requires.may.grows [
        | inl same ↦ inl same
        | inr parent ↦
            inr (
              parent.0,
              sym (parents_alike c.args.space c.args.self.now c.args.chunk.now c.requires.kept c.requires.own.lent
                  c.requires.own.reserved) ∙ parent.1,
            )
      ];
    }

pub commit-requires-clause-front : goal.commit-requires-clause-front
commit-requires-clause-front c = (
  search rules,
  front_is_low c.args.space c.args.self.now c.args.greater.now c.requires.kept c.requires.may.placed
      c.requires.may.within
      (inl (reserved_too c.args.space c.args.self.now c.args.chunk.now c.args.greater.now c.requires.own
      c.requires.may)),
)

pub commit-requires-clause-reserved : goal.commit-requires-clause-reserved
commit-requires-clause-reserved c =
    let there =
    stays_reserved c.args.space c.args.self.now.nodes (slot_of c.args.greater.now.start)
    (reserved_too c.args.space c.args.self.now c.args.chunk.now c.args.greater.now c.requires.own c.requires.may) in
    front_is_reserved c.args.self.now c.args.greater.now c.args.self.now.nodes c.granule.result there c.granule.ensures
    c.requires.kept c.requires.may.placed c.requires.may.some c.requires.may.within

pub commit-requires-clause-limit : goal.commit-requires-clause-limit
commit-requires-clause-limit c =
    let there =
    stays_reserved c.args.space c.args.self.now.nodes (slot_of c.args.greater.now.start)
    (reserved_too c.args.space c.args.self.now c.args.chunk.now c.args.greater.now c.requires.own c.requires.may) in
    front_within c.args.space c.args.self.now c.args.greater.now c.args.self.now.nodes c.granule.result there
    c.granule.ensures c.requires.kept c.requires.may.some c.requires.may.inside c.requires.may.limit

pub commit-requires-clause-need : goal.commit-requires-clause-need
commit-requires-clause-need c =
    let there =
    stays_reserved c.args.space c.args.self.now.nodes (slot_of c.args.greater.now.start)
    (reserved_too c.args.space c.args.self.now c.args.chunk.now c.args.greater.now c.requires.own c.requires.may) in
    front_lacks c.args.space c.args.self.now c.args.greater.now c.args.self.now.nodes c.granule.result c.args.need there
    c.granule.ensures c.requires.kept c.requires.may.some c.requires.may.inside c.requires.need

pub returns-clause-grown : goal.returns-clause-grown
returns-clause-grown c =
    (grown_shows c.args.space c.args.self.now c.args.chunk.now c.args.greater.now c.commit.new.nodes
    c.raise.new.trees.items c.granule.result c.requires.kept c.requires.own c.requires.may c.granule.ensures
    c.commit.ensures.committed c.commit.ensures.sound c.raise.ensures.loans).after

pub returns-clause-kept : goal.returns-clause-kept
returns-clause-kept c =
    kept_where_shown c.args.self.now c.commit.new.nodes c.raise.new.trees _ c.requires.kept c.raise.ensures.count
    c.raise.ensures.leaves c.commit.ensures.sound
    (grown_shows c.args.space c.args.self.now c.args.chunk.now c.args.greater.now c.commit.new.nodes
    c.raise.new.trees.items c.granule.result c.requires.kept c.requires.own c.requires.may c.granule.ensures
    c.commit.ensures.committed c.commit.ensures.sound c.raise.ensures.loans) c.requires.may.sound
