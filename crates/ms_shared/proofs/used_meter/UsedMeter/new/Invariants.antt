use Rattle.std.proofs.Common.{◌≡◌, ◌+◌, ◌-◌, ◌≤◌, [], vec_len, vec_capacity, replicate}
use Rattle.ms_shared.specs.MeterRule.{meter_view}
use Rattle.ms_shared.proofs.used_meter.UsedMeter.new.Given as goal

abbrev pub invariant-loop : goal.invariant-loop
invariant-loop l =
    (l.given.items ≡ replicate (l.counter - 1) (record { id = l.table.shared.table_id; amount = 0; steps = 0 }))
    × (vec_len l.given + 1 ≡ l.counter)
    × (l.seats ≤ vec_capacity l.given)
    × (l.rest.table_id ≡ l.table.shared.table_id)
    × (l.rest.me ≡ (meter_view (l.seats + 1 - l.counter) 0 0, []))
    × (1 ≤ l.counter) × (l.counter ≤ l.seats)
