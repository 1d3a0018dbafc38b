use Rattle.std.proofs.Common.{◌≡◌, ◌*◌, ◌==◌, length, sym, ap, ◌∙◌, arith, eq-eqb, ne_eqb, inl, inr, true}
use Rattle.ms_base.specs.declared.kind.Space.{Space}
use Rattle.ms_base.specs.declared.span.Span.{Span}
use Rattle.ms_base.specs.declared.kind.Space.TheVariants.{NonClass, Class}
use Rattle.ms_base.specs.Part.{is_reserved, node_words, slot_of}
use Rattle.ms_base.specs.PoolSteps.Pick.{lowest_unreserved}
use Rattle.ms_base.specs.Spaces.{by_space, class_slots}
use Rattle.ms_commit.specs.Nodes.{slots_of}
use Rattle.ms_pool.specs.Ledger.{state_in}
use Rattle.ms_pool.specs.Keeping.{ledger_of}
use Rattle.ms_pool.proofs.searches.PickedLemmas.{found_is_reserved, picked_found, picked_new}
use Rattle.ms_pool.proofs.lender.Lender.pick.Goals as goal
use Rattle.ms_pool.proofs.ledger.TakenLemmas.{slot_of_root}

pub returns-in-Some-clause-picked : goal.returns-in-Some-clause-picked
returns-in-Some-clause-picked c =
    rw (c.new.ensures, c.max.ensures, c.number.ensures.same, c.number-in-Some.ensures.same)
    (picked_found (state_in c.args.space (ledger_of c.args.self.now)) c.args.wanted c.args.most c.args.words
    c.in-Some.part c.requires.asks.levels (sym c.found.ensures.first ∙ c.in-Some.is)).0

pub returns-in-Some-clause-room : goal.returns-in-Some-clause-room
returns-in-Some-clause-room c =
    (picked_found (state_in c.args.space (ledger_of c.args.self.now)) c.args.wanted c.args.most c.args.words
    c.in-Some.part c.requires.asks.levels (sym c.found.ensures.first ∙ c.in-Some.is)).1

pub returns-in-Some-new_slot-clause-picked : goal.returns-in-Some-new_slot-clause-picked
returns-in-Some-new_slot-clause-picked c =
    let nodes = c.args.self.now.nodes in
    let h = c.in-Some-new_slot.ensures in
    let root : Space → Span =
    λ space. record {
      start = lowest_unreserved (by_space space nodes.slots (class_slots nodes.class_slots))
          * node_words;
      level = c.args.wanted;
    } in
    rw (c.from.ensures, h.lowest)
    (ap root (sym h.space)
    ∙ (picked_new (state_in c.args.space (ledger_of c.args.self.now)) c.args.wanted c.args.most c.args.words
    (sym c.found.ensures.first ∙ c.in-None.is)).0)

pub returns-in-Some-new_slot-clause-room : goal.returns-in-Some-new_slot-clause-room
returns-in-Some-new_slot-clause-room c =
    let nodes = c.args.self.now.nodes in
    let h = c.in-Some-new_slot.ensures in
    (picked_new (state_in c.args.space (ledger_of c.args.self.now)) c.args.wanted c.args.most c.args.words
    (sym c.found.ensures.first ∙ c.in-None.is)).1
    ∙ ap (λ space. length (by_space space nodes.slots (class_slots nodes.class_slots))
    == by_space space nodes.limits.nodes nodes.class_slots) h.space
    ∙ ne_eqb (length nodes.slots) nodes.limits.nodes (omega (arith, h.granted))

pub returns-in-None-new_slot-clause-full : goal.returns-in-None-new_slot-clause-full
returns-in-None-new_slot-clause-full c =
    let nodes = c.args.self.now.nodes in
    let h = c.in-None-new_slot.ensures in
    (picked_new (state_in c.args.space (ledger_of c.args.self.now)) c.args.wanted c.args.most c.args.words
    (sym c.found.ensures.first ∙ c.in-None.is)).1
    ∙ eq-eqb (length (by_space c.args.space nodes.slots (class_slots nodes.class_slots)))
    (by_space c.args.space nodes.limits.nodes nodes.class_slots) h.full

pub returns-in-Some-clause-slot : goal.returns-in-Some-clause-slot
returns-in-Some-clause-slot c =
    inl (in_space c.args.space
    (found_is_reserved (state_in c.args.space (ledger_of c.args.self.now)) c.args.wanted c.args.most c.args.words
    c.in-Some.part c.requires.asks.levels (sym c.found.ensures.first ∙ c.in-Some.is)))
  where
    in_space : (space : Space)
        → is_reserved (state_in space (ledger_of c.args.self.now)).slots (slot_of c.in-Some.part.start) ≡ true
        → is_reserved (slots_of space c.args.self.now.nodes) (slot_of c.in-Some.part.start) ≡ true
    in_space NonClass e = e
    in_space Class e = e

pub returns-in-Some-new_slot-clause-slot : goal.returns-in-Some-new_slot-clause-slot
returns-in-Some-new_slot-clause-slot c =
    let h = c.in-Some-new_slot.ensures in
    rw c.from.ensures (inr (h.space, slot_of_root c.in-Some-new_slot.slot ∙ h.lowest, h.granted))
