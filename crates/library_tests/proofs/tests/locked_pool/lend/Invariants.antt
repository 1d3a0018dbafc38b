use Rattle.std.proofs.Common.{◌≡◌}
use Rattle.library_tests.proofs.tests.locked_pool.lend.Given as goal

abbrev pub invariant-loop : goal.invariant-loop
invariant-loop g l = l.holder.id ≡ l.fn.seat.id
