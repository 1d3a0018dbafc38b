-- A line more is heard, or none is left.
use Rattle.std.proofs.Common.{ℕ, List, subst}
use Rattle.jvm_log.specs.Hearing.{HearsLine, trimmed}
use Rattle.jvm_log.specs.Reading.{said_in}
use Rattle.jvm_log.proofs.HearingLemmas.{all_heard, line_heard}
use Rattle.jvm_log.proofs.lines.read_log.Goals as goal

pub returns-then-not-more : goal.returns-then-not-more
returns-then-not-more g c =
    all_heard g.L.Listener.hears (g.R.Read.remaining c.args.input.now) (g.R.Read.remaining c.loop-number.input)
    (c.args.listener.now, g.W.Write.contents c.args.output.now) (c.loop-number.listener, g.W.Write.contents c.loop-number.output)
    c.loop-number.number c.loop-number.invariant (c.in_ok-more.ensures.end c.if-not-more.true)

pub loop-number-preserved : goal.loop-number-preserved
loop-number-preserved g c =
    let P : List ℕ → Type 0 = λ text. HearsLine g.L.Listener.hears (c.loop-number.listener, g.W.Write.contents c.loop-number.output)
    c.loop-number.number (trimmed text) (said_in (trimmed text)) (c.hear_line.new.listener, g.W.Write.contents c.hear_line.new.output) in
    line_heard g.L.Listener.hears (g.R.Read.remaining c.args.input.now) (g.R.Read.remaining c.loop-number.input)
    (g.R.Read.remaining c.next_line.new.input) (c.args.listener.now, g.W.Write.contents c.args.output.now)
    (c.loop-number.listener, g.W.Write.contents c.loop-number.output)
    (c.hear_line.new.listener, g.W.Write.contents c.hear_line.new.output)
    c.loop-number.number c.next_line.new.line.items c.loop-number.invariant c.in_ok-more.ensures.line
    c.in_ok-more.ensures.rest (c.in_ok-more.ensures.some c.if-not-more.false)
    (subst P c.deref.ensures.value c.in_ok-hear_line.ensures)
