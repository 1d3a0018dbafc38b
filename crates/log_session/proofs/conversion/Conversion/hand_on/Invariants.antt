-- What has come so far comes further, and each turn gives one of the lines that waited.
use Rattle.std.proofs.Common.{◌≡◌, ◌≤◌, ◌+◌, [], length}
use Rattle.jvm_log.specs.Known.{known_in, waits}
use Rattle.jvm_log.specs.Waits.{is_closed}
use Rattle.log_session.specs.UnderWay.{GoesOn, held_in}
use Rattle.log_session.proofs.conversion.Conversion.hand_on.Given as goal

abbrev pub invariant-loop-given : goal.invariant-loop-given
invariant-loop-given g l = record {
  comes : GoesOn [] (l.fn.self, g.W.Write.contents l.fn.output) (l.self, g.W.Write.contents l.output);
  closed : is_closed l.self.machine ≡ is_closed l.fn.self.machine;
  held : length (held_in l.self).entries.items + l._given ≤ length (held_in l.fn.self).entries.items;
  fewer : length (waits (known_in l.self.machine)) + l._given ≡ length (waits (known_in l.fn.self.machine));
}
