use Rattle.std.proofs.Common.{◌≡◌}
use Rattle.library_tests.proofs.tests.used_meter.add_and_take_off.Given as goal

abbrev pub invariant-loop-words : goal.invariant-loop-words
invariant-loop-words l = l.seat.id ≡ l.fn.seat.id
