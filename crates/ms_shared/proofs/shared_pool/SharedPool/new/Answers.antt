use Rattle.std.proofs.Common.{rules, ◌∷◌, ◌++◌, List, [], Option, Some, sym, ap, ◌∙◌, subst, arith, refl}
use Rattle.atomic_table.specs.Table.{opening}
use Rattle.ms_pool.specs.Ledger.{Ledger}
use Rattle.ms_shared.specs.SeatView.{new_seats}
use Rattle.ms_shared.specs.LockRule.{IsLocked, Sat, first_view}
use Rattle.ms_shared.specs.History.{first_strand}
use Rattle.ms_shared.proofs.StrandLemmas.{first_of_front}
use Rattle.ms_shared.proofs.SeatCutLemmas.{begins, cut, cuts_seats}
use Rattle.ms_shared.proofs.SeatDealLemmas.{cut_is_one, deals_begin, deals_more, deals_end, last_is_one}
use Rattle.ms_shared.proofs.SeatDealLemmas.{same_slot, seen_as}
use Rattle.ms_shared.proofs.shared_pool.SharedPool.new.Goals as goal

pub new-requires : goal.new-requires
new-requires c =
    let some = c.requires.some in let slots =
    c.push_reserved.ensures.items
    ∙ ap (λ (l : List (Option Ledger)). l ++ Some c.args.pool ∷ []) c.in-Ok-Ok.ensures'.items in
    subst (λ (l : List (Option Ledger)). IsLocked c.args.seats c.of.result.value
    (opening (0 ∷ []) l (first_view c.args.seats c.of.result.value))) (sym slots)
    (subst (λ (p : Ledger). IsLocked c.args.seats p
    (opening (0 ∷ []) (Some c.args.pool ∷ []) (first_view c.args.seats p))) (sym c.of.ensures)
    (begins c.args.seats c.args.pool (omega arith) c.committed.ensures.tallies))

pub loop-init : goal.loop-init
loop-init c =
    let table = c.in-Ok.ensures.ok in let len = c.in-Ok-Ok.ensures.len in let cap = c.in-Ok-Ok.ensures.capacity in (
      deals_begin _ _ _ _ _ c.requires.some c.in-Ok-Ok.ensures.items (ap (λ (m : Sat). m.0) table.4),
      table.2,
      ap (λ (m : Sat). m.1) table.4,
      omega arith,
      omega arith,
    )

pub split_seat-next-requires : goal.split_seat-next-requires
split_seat-next-requires c =
    let inv = c.loop.invariant in let parts = inv.0.parts in let more = c.loop-test.true in
    (inv.1, search rules, cut _ _ _ _ _ _ (cuts_seats c.loop.rest.me.0 (omega arith)))

pub invariant_of-push_reserved : goal.invariant_of-push_reserved
invariant_of-push_reserved c =
    let inv = c.loop.invariant in
    cut_is_one _ _ _ _ _ c.loop.rest.me c.split_seat-next.new.seat.me inv.0 inv.2 c.split_seat-next.ensures.2

pub invariant_of-push_reserved-in-Ok : goal.invariant_of-push_reserved-in-Ok
invariant_of-push_reserved-in-Ok c =
    let inv = c.loop.invariant in last_is_one _ _ _ _ _ c.loop.rest.me inv.0 c.loop-test.false inv.2

pub loop-preserved : goal.loop-preserved
loop-preserved c =
    let inv = c.loop.invariant in let s = c.split_seat-next.ensures in let more = c.loop-test.true in let len =
    c.push_reserved-in-loop.ensures.len in let cap = c.push_reserved-in-loop.ensures.capacity in let count =
    inv.3 in let room = inv.4 in (
      deals_more _ _ _ _ _ _ c.loop.rest.me.0 c.split_seat-next.result.me.0 _ inv.0 more
          c.push_reserved-in-loop.ensures.items
          (seen_as _ _ _ _ c.split_seat-next.new.seat.me.0 (s.0 ∙ inv.1)
          (ap (λ (m : Sat). first_strand m.0.strands) s.2 ∙ first_of_front c.loop.rest.me.0.strands)
          (ap (λ (m : Sat). m.0.knows) s.2)) (ap (λ (m : Sat). m.0) s.4),
      s.3 ∙ inv.1,
      ap (λ (m : Sat). m.1) s.4,
      omega arith,
      omega arith,
    )

pub returns-after-loop-clause-seats : goal.returns-after-loop-clause-seats
returns-after-loop-clause-seats c =
    let inv = c.loop.invariant in let all = c.loop-test.false in
    deals_end _ _ _ _ _ _ c.loop.rest.me.0 _ inv.0 (omega arith) c.push_reserved-in-Ok.ensures.items
    (seen_as _ _ _ _ c.loop.rest.me.0 inv.1 refl refl)
    ∙ ap (new_seats c.in-Ok.table.shared.table_id c.args.seats) c.of.ensures

pub returns-in-Some-Some-clause-handed_back : goal.returns-in-Some-Some-clause-handed_back
returns-in-Some-Some-clause-handed_back c =
    let slots =
    c.push_reserved.ensures.items
    ∙ ap (λ (l : List (Option Ledger)). l ++ Some c.args.pool ∷ []) c.in-Ok-Ok.ensures'.items in
    same_slot c.in-Err.field-0.slots.items c.pop.new.self.items c.in-Some-Some.pool c.args.pool
    (c.in-Err.ensures.err ∙ slots) (rw c.in-Some-Some.field-0-is at c.in-Some-Some.ensures.items)
