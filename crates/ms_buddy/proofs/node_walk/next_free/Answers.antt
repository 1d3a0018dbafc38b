-- Each turn leaves what was left, or answers its first part.
use Rattle.std.proofs.Common.{◌<◌, length, ap, arith, refl, sym, ◌∙◌}
use Rattle.ms_buddy.specs.Boxes.{shape_of}
use Rattle.ms_buddy.proofs.boxes.BoxLemmas.{at_boxes}
use Rattle.ms_buddy.proofs.boxes.StackLemmas.{at_turn, at_end, gap_absurd, past_lent, past_split, whole_next}
use Rattle.ms_buddy.proofs.node_walk.next_free.Goals as goal

pub part-requires : goal.part-requires
part-requires g c =
    let turn = at_turn _ _ _ _ c.in-Some.ensures.items c.in-Some-top.is c.loop-top.invariant.0 in
    turn.top.of_root.level_fits

pub returns-in-Free-clause-stack : goal.returns-in-Free-clause-stack
returns-in-Free-clause-stack g c =
    let turn = at_turn _ _ _ _ c.in-Some.ensures.items c.in-Some-top.is c.loop-top.invariant.0 in
    turn.top.below

pub returns-in-Free-clause-next : goal.returns-in-Free-clause-next
returns-in-Free-clause-next g c =
    let turn = at_turn _ _ _ _ c.in-Some.ensures.items c.in-Some-top.is c.loop-top.invariant.0 in
    sym c.loop-top.invariant.1 ∙ whole_next _ _ _ c.part.result turn (ap shape_of c.in-Free.is) c.part.ensures.start c.part.ensures.level

pub overflow_add-level : goal.overflow_add-level
overflow_add-level g c =
    let turn = at_turn _ _ _ _ c.in-Some.ensures.items c.in-Some-top.is c.loop-top.invariant.0 in
    omega (arith, turn.top.of_root.level_fits)

pub half_of-requires : goal.half_of-requires
half_of-requires g c =
    let turn = at_turn _ _ _ _ c.in-Some.ensures.items c.in-Some-top.is c.loop-top.invariant.0 in
    let s = at_boxes _ c.in-Some-top.visit.start _ _ _ _ _ _ c.in-Split.is turn.top.tree refl in
    s.low

pub overflow_add-visit : goal.overflow_add-visit
overflow_add-visit g c =
    let turn = at_turn _ _ _ _ c.in-Some.ensures.items c.in-Some-top.is c.loop-top.invariant.0 in
    omega (arith, turn.top.of_root.in_root)

pub push-requires : goal.push-requires
push-requires g c =
    let turn = at_turn _ _ _ _ c.in-Some.ensures.items c.in-Some-top.is c.loop-top.invariant.0 in
    let s = at_boxes _ c.in-Some-top.visit.start _ _ _ _ _ _ c.in-Split.is turn.top.tree refl in
    let room : length c.pop.new.self.items < 13 = omega (arith, turn.top.low, s.low) in
    (omega arith, room)

pub push-requires-in-Split : goal.push-requires-in-Split
push-requires-in-Split g c =
    let turn = at_turn _ _ _ _ c.in-Some.ensures.items c.in-Some-top.is c.loop-top.invariant.0 in
    let s = at_boxes _ c.in-Some-top.visit.start _ _ _ _ _ _ c.in-Split.is turn.top.tree refl in
    let room : length c.push.new.self.items < 13 = omega (arith, turn.top.low, s.low, c.push.ensures.len) in
    (omega arith, room)

pub loop-top-smaller-in-Lent : goal.loop-top-smaller-in-Lent
loop-top-smaller-in-Lent g c =
    let turn = at_turn _ _ _ _ c.in-Some.ensures.items c.in-Some-top.is c.loop-top.invariant.0 in
    (past_lent _ _ _ _ _ turn (ap shape_of c.in-Lent.is)).fewer

pub loop-top-preserved-in-Lent : goal.loop-top-preserved-in-Lent
loop-top-preserved-in-Lent g c =
    let turn = at_turn _ _ _ _ c.in-Some.ensures.items c.in-Some-top.is c.loop-top.invariant.0 in
    let on = past_lent _ _ _ _ _ turn (ap shape_of c.in-Lent.is) in
    (on.stack, on.left ∙ c.loop-top.invariant.1)

pub loop-top-smaller : goal.loop-top-smaller
loop-top-smaller g c =
    let turn = at_turn _ _ _ _ c.in-Some.ensures.items c.in-Some-top.is c.loop-top.invariant.0 in
    let s = at_boxes _ c.in-Some-top.visit.start _ _ _ _ _ _ c.in-Split.is turn.top.tree c.half_of.ensures.size in
    let on = past_split c.loop-top.stack.items c.pop.new.self.items c.push.new.self.items c.push-in-Split.new.self.items c.in-Some-top.visit _ _ c.half_of.result turn (rw (c.deref.ensures, c.deref-in-Split.ensures) s) (rw (c.in-Split.is, c.deref.ensures, c.deref-in-Split.ensures) refl) refl refl refl refl c.push.ensures.items c.push-in-Split.ensures.items in
    on.fewer

pub loop-top-preserved : goal.loop-top-preserved
loop-top-preserved g c =
    let turn = at_turn _ _ _ _ c.in-Some.ensures.items c.in-Some-top.is c.loop-top.invariant.0 in
    let s = at_boxes _ c.in-Some-top.visit.start _ _ _ _ _ _ c.in-Split.is turn.top.tree c.half_of.ensures.size in
    let on = past_split c.loop-top.stack.items c.pop.new.self.items c.push.new.self.items c.push-in-Split.new.self.items c.in-Some-top.visit _ _ c.half_of.result turn (rw (c.deref.ensures, c.deref-in-Split.ensures) s) (rw (c.in-Split.is, c.deref.ensures, c.deref-in-Split.ensures) refl) refl refl refl refl c.push.ensures.items c.push-in-Split.ensures.items in
    (on.stack, on.left ∙ c.loop-top.invariant.1)

pub returns-in_default-top-clause-stack : goal.returns-in_default-top-clause-stack
returns-in_default-top-clause-stack g c = absurd (gap_absurd _ _ _ c.in-Some.ensures.items c.in_default-top.is c.loop-top.invariant.0)

pub returns-in_default-top-clause-next : goal.returns-in_default-top-clause-next
returns-in_default-top-clause-next g c = absurd (gap_absurd _ _ _ c.in-Some.ensures.items c.in_default-top.is c.loop-top.invariant.0)

pub returns-clause-next : goal.returns-clause-next
returns-clause-next g c =
    let none = at_end c.loop-top.stack.items c.pop.new.self.items c.in_default.ensures.variant.1 c.in_default.ensures.items in
    (sym c.loop-top.invariant.1 ∙ none.0, none.1)
