use Rattle.std.proofs.Common.{◌≡◌, ◌+◌, drop}
use Rattle.ms_session.specs.Watching.{lines_before_unload}
use Rattle.ms_session.proofs.watching.lines_before_unload.Given as goal

-- No line so far asks for it.
abbrev pub invariant-loop-position : goal.invariant-loop-position
invariant-loop-position l = lines_before_unload l.lines ≡ l.position + lines_before_unload (drop l.position l.lines)
