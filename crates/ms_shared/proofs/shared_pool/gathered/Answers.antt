use Rattle.std.proofs.Common.{rules, ◌≡◌, Option, ap, arith, sym, ◌∙◌, subst, refl, IsSome}
use Rattle.ms_pool.specs.Ledger.{Ledger}
use Rattle.ms_shared.specs.SeatView.{SeatState}
use Rattle.ms_shared.specs.LockRule.{Sat}
use Rattle.ms_shared.proofs.SeatCutLemmas.{join}
use Rattle.ms_shared.proofs.SeatGatherLemmas.{gather_done, slot_has, same_pool, gather_begins, gather_more, gather_ends}
use Rattle.ms_shared.proofs.SeatGatherLemmas.{gather_history}
use Rattle.ms_shared.proofs.TotalLemmas.{all_front, all_last}
use Rattle.ms_shared.proofs.shared_pool.gathered.Goals as goal

pub loop-seat-init : goal.loop-seat-init
loop-seat-init c =
    let items = c.in-Some.ensures.items in let whole = c.into_table_seat-whole.ensures in let own =
    λ (seat : SeatState). seat.id ≡ c.args.table.shared.table_id in (
      whole.own ∙ all_last own _ _ _ items c.requires.own,
      whole.slots,
      gather_begins _ _ _ _ _ items (sym c.args.seats.ok.0 ∙ sym c.requires.made) whole.knows whole.strands whole.parts
          whole.free,
      all_front own _ _ _ items c.requires.own,
    )

pub join_seat-requires : goal.join_seat-requires
join_seat-requires c =
    let inv = c.loop-seat.invariant in let seat = c.into_table_seat.ensures in let live = inv.2.live in let own =
    λ (s : SeatState). s.id ≡ c.args.table.shared.table_id in (
      inv.0,
      seat.own ∙ all_last own _ _ _ c.in-Some-pop.ensures.items inv.3,
      seat.slots,
      search rules,
      join _ _ _ _ _ _ (omega arith) inv.2.free seat.free,
    )

pub loop-seat-preserved : goal.loop-seat-preserved
loop-seat-preserved c =
    let inv = c.loop-seat.invariant in let items = c.in-Some-pop.ensures.items in let joined = c.join_seat.ensures in
    let seat = c.into_table_seat.ensures in (
      joined.0 ∙ inv.0,
      ap (λ (m : Sat). m.1) joined.2 ∙ inv.1,
      gather_more _ _ _ _ _ c.loop-seat.whole.me.0 c.into_table_seat.result.me.0 _ inv.2 items seat.knows seat.strands seat.parts
          (ap (λ (m : Sat). m.0) joined.2),
      all_front (λ (s : SeatState). s.id ≡ c.args.table.shared.table_id) _ _ _ items inv.3,
    )

pub unwrap-requires : goal.unwrap-requires
unwrap-requires c =
    let end = gather_done _ _ _ _ c.loop-seat.invariant.2 c.loop-seat.seats.ok.0 c.in_default-pop.ensures.cases.0 in
    let slot =
    slot_has c.args.table.shared.key.made _ _ _ _ _ c.take-slot.result end.parts end.free
    c.close_with-closed.ensures.values.2 c.take-slot.ensures.value in
    subst (λ (o : Option Ledger). IsSome o) (sym slot.1) refl

pub returns : goal.returns
returns c =
    let end = gather_done _ _ _ _ c.loop-seat.invariant.2 c.loop-seat.seats.ok.0 c.in_default-pop.ensures.cases.0 in
    let slot =
    slot_has c.args.table.shared.key.made _ _ _ _ _ c.take-slot.result end.parts end.free
    c.close_with-closed.ensures.values.2 c.take-slot.ensures.value in
    let all = same_pool _ _ _ _ c.unwrap.result c.take-slot.result slot.1 c.unwrap.ensures slot.2 in
    record {
      limits = all.limits_are;
      gathered = gather_ends _ _ _ _ c.unwrap.result end.seats all;
      history = gather_history _ _ _ _ c.unwrap.result (sym c.args.seats.ok.0 ∙ sym c.requires.made) end.seats all;
    }
