-- What is heard of the rest of the text completes what is heard of all of it.
use Rattle.jvm_log.proofs.HearingLemmas.{Completes}
use Rattle.jvm_log.proofs.lines.read_log.Given as goal

abbrev pub invariant-loop-number : goal.invariant-loop-number
invariant-loop-number g l =
    Completes g.L.Listener.hears (g.R.Read.remaining l.fn.input) (l.fn.listener, g.W.Write.contents l.fn.output)
    (g.R.Read.remaining l.input) l.number (l.listener, g.W.Write.contents l.output)
