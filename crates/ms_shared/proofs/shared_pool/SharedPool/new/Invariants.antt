use Rattle.std.proofs.Common.{◌≡◌, ◌+◌, ◌≤◌, [], vec_len, vec_capacity}
use Rattle.ms_shared.proofs.SeatDealLemmas.{IsDealing}
use Rattle.ms_shared.proofs.shared_pool.SharedPool.new.Given as goal

abbrev pub invariant-loop : goal.invariant-loop
invariant-loop l =
    IsDealing l.table.shared.table_id l.seats l.counter l.key.pool.value l.given.items l.rest.me.0
    × (l.rest.table_id ≡ l.table.shared.table_id)
    × (l.rest.me.1 ≡ [])
    × (vec_len l.given + 1 ≡ l.counter)
    × (l.seats ≤ vec_capacity l.given)
