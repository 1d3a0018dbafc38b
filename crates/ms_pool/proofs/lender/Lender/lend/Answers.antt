use Rattle.std.proofs.Common.{rules, List, ap, refl, subst, sym, arith}
use Rattle.ms_base.specs.Part.{slot_of}
use Rattle.ms_buddy.specs.Leaves.{LentLeaf}
use Rattle.ms_pool.specs.Keeping.{IsKept, ledger_of}
use Rattle.ms_pool.proofs.counts.CountedLemmas.{counted_on, lent_is_counted, room_there, run_starts_in}
use Rattle.ms_pool.proofs.loans.OpenLemmas.{open_is_low, open_where_fresh}
use Rattle.ms_pool.proofs.loans.LentPartLemmas.{front_is_low, front_is_reserved, front_lacks, front_within}
use Rattle.ms_pool.proofs.loans.ShownLemmas.{kept_however_counted, kept_where_shown, lent_shows}
use Rattle.ms_pool.proofs.lender.Lender.lend.Goals as goal

pub carve-requires-clause-may : goal.carve-requires-clause-may
carve-requires-clause-may c = record {
  there = omega (
    arith,
    c.requires.kept.trees,
    open_is_low c.args.space c.args.self.now.nodes (slot_of c.args.chunk.now.start)
        c.requires.kept.nodes c.requires.kept.sound.nodes.1 c.requires.may.slot,
  );
  placed = c.requires.may.placed;
  some = c.requires.may.some;
  within = c.requires.may.within;
}

pub overflow_cast-chunk : goal.overflow_cast-chunk
overflow_cast-chunk c =
    (omega (
      arith,
      c.requires.kept.nodes.class_slots,
      open_is_low c.args.space c.args.self.now.nodes (slot_of c.args.chunk.now.start) c.requires.kept.nodes
          c.requires.kept.sound.nodes.1 c.requires.may.slot,
    ))

pub reserve-requires-clause-lowest : goal.reserve-requires-clause-lowest
reserve-requires-clause-lowest c =
    λ gone. (open_where_fresh c.args.space c.args.self.now.nodes (slot_of c.args.chunk.now.start) c.requires.may.slot
    gone).0

pub reserve-requires-clause-left : goal.reserve-requires-clause-left
reserve-requires-clause-left c =
    λ gone. (open_where_fresh c.args.space c.args.self.now.nodes (slot_of c.args.chunk.now.start) c.requires.may.slot
    gone).1

pub commit-requires-clause-front : goal.commit-requires-clause-front
commit-requires-clause-front c = (
  search rules,
  front_is_low c.args.space c.args.self.now c.args.chunk.now c.requires.kept c.requires.may.placed
      c.requires.may.within c.requires.may.slot,
)

pub commit-requires-clause-reserved : goal.commit-requires-clause-reserved
commit-requires-clause-reserved c =
    front_is_reserved c.args.self.now c.args.chunk.now c.reserve.new.nodes c.granule.result c.reserve.ensures.reserved
    c.granule.ensures c.requires.kept c.requires.may.placed c.requires.may.some c.requires.may.within

pub commit-requires-clause-limit : goal.commit-requires-clause-limit
commit-requires-clause-limit c =
    front_within c.args.space c.args.self.now c.args.chunk.now c.reserve.new.nodes c.granule.result
    c.reserve.ensures.reserved c.granule.ensures c.requires.kept c.requires.may.some c.requires.may.inside
    c.requires.may.limit

pub commit-requires-clause-need : goal.commit-requires-clause-need
commit-requires-clause-need c =
    front_lacks c.args.space c.args.self.now c.args.chunk.now c.reserve.new.nodes c.granule.result c.args.need
    c.reserve.ensures.reserved c.granule.ensures c.requires.kept c.requires.may.some c.requires.may.inside
    c.requires.need

pub returns-clause-lent : goal.returns-clause-lent
returns-clause-lent c = λ _.
    (lent_shows c.args.space c.args.self.now c.args.owner c.args.chunk.now c.reserve.new.nodes c.commit.new.nodes
    c.carve.new.trees.items c.granule.result c.requires.kept c.requires.may c.reserve.ensures.reserved
    c.reserve.ensures.sound c.granule.ensures c.commit.ensures.committed c.commit.ensures.sound
    (c.if-not-carve.ensures.lent refl)).after

pub returns-clause-kept : goal.returns-clause-kept
returns-clause-kept c =
    kept_however_counted (record c.args.self.now { nodes = c.commit.new.nodes; trees = c.carve.new.trees })
    c.add.new.self
    (kept_where_shown c.args.self.now c.commit.new.nodes c.carve.new.trees _ c.requires.kept
    c.if-not-carve.ensures.count c.if-not-carve.ensures.leaves c.commit.ensures.sound
    (lent_shows c.args.space c.args.self.now c.args.owner c.args.chunk.now c.reserve.new.nodes c.commit.new.nodes
    c.carve.new.trees.items c.granule.result c.requires.kept c.requires.may c.reserve.ensures.reserved
    c.reserve.ensures.sound c.granule.ensures c.commit.ensures.committed c.commit.ensures.sound
    (c.if-not-carve.ensures.lent refl)) c.requires.may.sound)

pub returns-then-not-carve-clause-counted : goal.returns-then-not-carve-clause-counted
returns-then-not-carve-clause-counted c =
    counted_on c.args.self.now (record c.args.self.now { trees = c.carve.new.trees })
    (c.if-not-carve.ensures.unchanged refl) refl c.requires.counted

pub add-requires : goal.add-requires
add-requires c =
    room_there c.args.space c.args.self.now c.args.chunk.now c.requires.kept c.requires.counted c.requires.may.placed
    c.requires.may.within

pub returns-clause-counted : goal.returns-clause-counted
returns-clause-counted c =
    lent_is_counted c.args.space c.args.owner c.args.chunk.now c.args.self.now.lent c.add.new.self
    (ledger_of c.args.self.now) _ c.requires.counted c.add.ensures (returns-clause-lent c refl)
    (run_starts_in c.args.space c.args.chunk.now.start c.args.chunk.now.front c.requires.may.some c.requires.may.inside)

pub returns-then-not-carve-clause-unchanged : goal.returns-then-not-carve-clause-unchanged
returns-then-not-carve-clause-unchanged c = λ _.
    ap (λ (items : List (List LentLeaf)). ledger_of (record c.args.self.now { trees = record { items = items } }))
    (c.if-not-carve.ensures.unchanged refl)

pub returns-then-not-carve-clause-kept : goal.returns-then-not-carve-clause-kept
returns-then-not-carve-clause-kept c =
    subst (λ (items : List (List LentLeaf)). IsKept (record c.args.self.now { trees = record { items = items } }))
    (sym (c.if-not-carve.ensures.unchanged refl)) c.requires.kept
