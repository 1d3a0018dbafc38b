use Rattle.std.proofs.Common.{◌≡◌}
use Rattle.ms_shared.proofs.shared_pool.SharedPool.seize.Given as goal

abbrev pub invariant-loop : goal.invariant-loop
invariant-loop g l =
    (goal.iterator-loop g).can_next l.iterator' × (goal.iterator-loop g).is_finite l.iterator'
    × (l.seat.table_id ≡ l.fn.seat.table_id) × (l.seat.me ≡ l.fn.seat.me)
