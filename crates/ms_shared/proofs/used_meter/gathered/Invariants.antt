use Rattle.std.proofs.Common.{◌≡◌, ◌+◌, ◌≤◌, [], vec_len}
use Rattle.std.specs.List.{All, sum_by}
use Rattle.ms_shared.proofs.used_meter.gathered.Given as goal

abbrev pub invariant-loop-seat : goal.invariant-loop-seat
invariant-loop-seat l =
    (l.whole.table_id ≡ l.table.shared.table_id)
    × (l.whole.me.1 ≡ [])
    × (1 ≤ l.whole.me.0.parts)
    × (l.whole.me.0.parts + vec_len l.seats ≡ l.table.shared.key)
    × (l.whole.me.0.amount + sum_by (λ seat. seat.amount) l.seats.items ≡ sum_by (λ seat. seat.amount) l.fn.seats.items)
    × All (λ seat. seat.id ≡ l.table.shared.table_id) l.seats.items

abbrev pub decreases-loop-seat : goal.decreases-loop-seat
decreases-loop-seat l = vec_len l.seats
