use Rattle.std.proofs.Common.{rules, ◌≡◌, ◌+◌, ◌%◌, ◌^◌, ℕ, ap, arith, ◌∙◌, []}
use Rattle.std.specs.List.{sum_by}
use Rattle.atomic_table.specs.Table.{Me}
use Rattle.ms_shared.specs.declared.meter_rule.MeterView.{MeterView}
use Rattle.ms_shared.specs.declared.used_meter.MeterSeat.{MeterSeat}
use Rattle.ms_shared.proofs.MeterLemmas.{joins, settled}
use Rattle.ms_shared.proofs.TotalLemmas.{total_popped, all_front, all_last, none_left}
use Rattle.ms_shared.proofs.used_meter.gathered.Goals as goal

pub loop-seat-init : goal.loop-seat-init
loop-seat-init c =
    let items = c.in-Some.ensures.items in let len = c.in-Some.ensures.len in let made = c.requires.made in let whole =
    c.into_table_seat-whole.ensures in let parts : c.into_table_seat-whole.result.me.0.parts ≡ 1 =
    ap (λ (m : Me ℕ MeterView). m.0.parts) whole.view in
    let amount : c.into_table_seat-whole.result.me.0.amount ≡ c.in-Some.first.amount =
    ap (λ (m : Me ℕ MeterView). m.0.amount) whole.view in let sum =
    total_popped (λ (s : MeterSeat). s.amount) _ _ _ items in (
      whole.own ∙ all_last (λ (s : MeterSeat). s.id ≡ c.args.table.shared.table_id) _ _ _ items c.requires.own,
      ap (λ (m : Me ℕ MeterView). m.1) whole.view,
      omega arith,
      omega arith,
      omega arith,
      all_front (λ (s : MeterSeat). s.id ≡ c.args.table.shared.table_id) _ _ _ items c.requires.own,
    )

pub join_seat-requires : goal.join_seat-requires
join_seat-requires c =
    let inv = c.loop-seat.invariant in let items = c.in-Some-pop.ensures.items in let live = inv.2 in (
      inv.0,
      c.into_table_seat.ensures.own
          ∙ all_last (λ (s : MeterSeat). s.id ≡ c.args.table.shared.table_id) _ _ _ items inv.5,
      ap (λ (m : Me ℕ MeterView). m.1) c.into_table_seat.ensures.view,
      search rules,
      joins _ _ _ _ _ (omega arith),
    )

pub loop-seat-preserved : goal.loop-seat-preserved
loop-seat-preserved c =
    let inv = c.loop-seat.invariant in let items = c.in-Some-pop.ensures.items in let len = c.in-Some-pop.ensures.len in
    let join = c.join_seat.ensures in let was = inv.3 in let sum_was = inv.4 in let live = inv.2 in let own =
    c.into_table_seat.ensures.view in
    let parts : c.join_seat.new.seat.me.0.parts
    ≡ c.loop-seat.whole.me.0.parts + c.into_table_seat.result.me.0.parts =
    ap (λ (m : Me ℕ MeterView). m.0.parts) join.2 in
    let amount : c.join_seat.new.seat.me.0.amount
    ≡ c.loop-seat.whole.me.0.amount + c.into_table_seat.result.me.0.amount =
    ap (λ (m : Me ℕ MeterView). m.0.amount) join.2 in let one : c.into_table_seat.result.me.0.parts ≡ 1 =
    ap (λ (m : Me ℕ MeterView). m.0.parts) own in
    let its : c.into_table_seat.result.me.0.amount ≡ c.in-Some-pop.seat.amount =
    ap (λ (m : Me ℕ MeterView). m.0.amount) own in let sum =
    total_popped (λ (s : MeterSeat). s.amount) _ _ _ items in (
      join.0 ∙ inv.0,
      ap (λ (m : Me ℕ MeterView). m.1) join.2
          ∙ inv.1,
      omega arith,
      omega arith,
      omega arith,
      all_front (λ (s : MeterSeat). s.id ≡ c.args.table.shared.table_id) _ _ _ items inv.5,
    )

pub returns : goal.returns
returns c =
    let inv = c.loop-seat.invariant in let none = c.in_default-pop.ensures.cases.0 in let parts = inv.3 in let sum_is =
    inv.4 in let empty : c.loop-seat.seats.items ≡ [] = none_left _ _ c.loop-seat.seats.ok.0 none in
    let nothing : sum_by (λ (s : MeterSeat). s.amount) c.loop-seat.seats.items ≡ 0 =
    ap (sum_by (λ (s : MeterSeat). s.amount)) empty in
    let sum : c.loop-seat.whole.me.0.amount ≡ sum_by (λ (s : MeterSeat). s.amount) c.args.seats.items =
    omega arith in
    settled _ _ _ _ _ _ (omega arith) c.close_with-closed.ensures.values.2 c.word-sum.ensures ∙ ap (λ n. n % 2 ^ 64) sum
