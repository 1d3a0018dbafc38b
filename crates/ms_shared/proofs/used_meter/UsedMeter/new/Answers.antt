use Rattle.std.proofs.Common.{rules, ◌≡◌, ◌+◌, ◌-◌, ℕ, [], ap, ◌∙◌, arith}
use Rattle.atomic_table.specs.Table.{Me}
use Rattle.ms_shared.specs.MeterRule.{less_part, meter_view}
use Rattle.ms_shared.specs.declared.meter_rule.MeterView.{MeterView}
use Rattle.ms_shared.proofs.MeterLemmas.{cuts, one_more_seat, meter_seat_is}
use Rattle.ms_shared.proofs.used_meter.UsedMeter.new.Goals as goal

pub split_seat-seat-requires : goal.split_seat-seat-requires
split_seat-seat-requires c =
    let more = c.loop-test.true in
    let parts : c.loop.rest.me.0.parts ≡ c.args.seats + 1 - c.loop.counter =
    ap (λ (me : Me ℕ MeterView). me.0.parts) c.loop.invariant.4 in
    (c.loop.invariant.3, search rules, cuts _ _ _ (omega arith))

-- One seat more is given, and the rest stands for one less.
pub loop-preserved : goal.loop-preserved
loop-preserved c =
    let inv = c.loop.invariant in let s = c.split_seat-seat.ensures in let more = c.loop-test.true in (
      one_more_seat _ _ _ _ c.loop.counter _ inv.5 (omega arith) inv.0 c.push_reserved.ensures.items
          (meter_seat_is _ _ (meter_view 1 0 0, []) _ (s.3 ∙ inv.3) s.4),
      omega (arith, c.push_reserved.ensures.len, inv.1),
      omega (arith, c.push_reserved.ensures.capacity, inv.2),
      s.0 ∙ inv.3,
      s.2
          ∙ ap (λ (me : Me ℕ MeterView). (less_part me.0, me.1)) inv.4
          ∙ ap (λ (parts : ℕ). (meter_view parts 0 0, [])) (omega arith),
      omega arith,
      omega arith,
    )

pub returns-clause-seats : goal.returns-clause-seats
returns-clause-seats c =
    let inv = c.loop.invariant in let all = c.loop-test.false in
    one_more_seat _ _ _ _ c.loop.counter _ inv.5 (omega arith) inv.0 c.push_reserved-2.ensures.items
    (meter_seat_is _ _ (meter_view (c.args.seats + 1 - c.loop.counter) 0 0, []) _ inv.3 inv.4)
