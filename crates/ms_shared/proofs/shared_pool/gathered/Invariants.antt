use Rattle.std.proofs.Common.{◌≡◌, [], vec_len}
use Rattle.std.specs.List.{All}
use Rattle.ms_shared.proofs.SeatGatherLemmas.{IsGathering}
use Rattle.ms_shared.proofs.shared_pool.gathered.Given as goal

abbrev pub invariant-loop-seat : goal.invariant-loop-seat
invariant-loop-seat l =
    (l.whole.table_id ≡ l.table.shared.table_id)
    × (l.whole.me.1 ≡ [])
    × IsGathering l.table.shared.key.made l.fn.seats.items l.seats.items l.whole.me.0
    × All (λ seat. seat.id ≡ l.table.shared.table_id) l.seats.items

abbrev pub decreases-loop-seat : goal.decreases-loop-seat
decreases-loop-seat l = vec_len l.seats
