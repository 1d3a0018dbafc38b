-- The lines passed so far are joined.
use Rattle.std.proofs.Common.{take}
use Rattle.log_session.specs.Joining.{IsJoined}
use Rattle.log_session.proofs.joining.joined.Given as goal

abbrev pub invariant-loop-at : goal.invariant-loop-at
invariant-loop-at l = IsJoined l.most (take l.at l.lines) l.joined.items
