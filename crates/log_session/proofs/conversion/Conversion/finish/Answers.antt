-- The log is over: its lines go out, and what is kept of them.
use Rattle.std.proofs.Common.{◌≡◌, ◌∙◌, [], List, ap, append-nil, refl, subst, sym}
use Rattle.jvm_log.specs.declared.event.Said.{Said}
use Rattle.jvm_log.specs.declared.machine.Machine.{Machine}
use Rattle.jvm_log.specs.Following.{Ends}
use Rattle.jvm_log.specs.Known.{known_in, waits}
use Rattle.jvm_log.specs.Waits.{is_closed}
use Rattle.log_session.specs.Trace.{WritesTrace}
use Rattle.log_session.specs.UnderWay.{HasEnded, IsUnderWay}
use Rattle.log_session.specs.declared.conversion.Conversion.{Conversion}
use Rattle.log_session.specs.declared.options.Options.{Options}
use Rattle.log_session.proofs.EndedLemmas.{ends_written}
use Rattle.log_session.proofs.UnderWayLemmas.{goes_on, is_over, same_lines}
use Rattle.log_session.proofs.conversion.Conversion.finish.Goals as goal

pub returns : goal.returns
returns g c = λ start said come.
    let before = g.W.Write.contents c.args.output.now in
    let after = g.W.Write.contents c.hand_on.new.output in
    let machine : c.warn.new.self.machine ≡ c.finish-trouble.new.self =
    ap (λ (its : Conversion g.row.E.Denot). its.machine) c.in_ok-warn.ensures in
    let warned = is_over c.args.self.now c.warn.new.self before
    (subst (λ (m : Machine). Ends (known_in c.args.self.now.machine) (known_in m)) (sym machine) c.finish-trouble.ensures.keeps)
    (ap (λ (its : Conversion g.row.E.Denot). its.options) c.in_ok-warn.ensures)
    (ap (λ (its : Conversion g.row.E.Denot). its.kept) c.in_ok-warn.ensures)
    (ap (λ (its : Conversion g.row.E.Denot). its.text) c.in_ok-warn.ensures) in
    let on = goes_on [] [] (c.args.self.now, before) (c.warn.new.self, before) (c.hand_on.new.self, after) warned c.in_ok-hand_on.ensures.comes in
    let came : IsUnderWay start said (c.hand_on.new.self, after) =
    subst (λ (s : List Said). IsUnderWay start s (c.hand_on.new.self, after)) (append-nil said) (on.comes start said come) in
    let all : waits (known_in c.hand_on.new.self.machine) ≡ [] =
    c.in_ok-hand_on.ensures.all (ap (λ (m : Machine). is_closed m) machine ∙ c.finish-trouble.ensures.closed) in
    let ended = c.in_ok-hand_on_kept.ensures.ended start said
    (same_lines start after said (known_in c.hand_on.new.self.machine) c.hand_on.new.self _ refl refl refl came) all in
    let options : c.hand_on_kept.new.self.options ≡ c.args.self.now.options = c.hand_on_kept.ensures.options ∙ on.options in
    subst (λ (its : Options). WritesTrace its said start (g.W.Write.contents c.write.new.output)) options
    (ends_written c.hand_on_kept.new.self.options said start (g.W.Write.contents c.report.new.output) (g.W.Write.contents c.write.new.output)
    c.report.new.self.text.text.items
    (c.in_ok-report.ensures start said
    (subst (λ (its : Options). HasEnded its said [] start (g.W.Write.contents c.hand_on_kept.new.output) c.hand_on_kept.new.self.text.text.items)
    (sym c.hand_on_kept.ensures.options) ended))
    c.in_ok-write.ensures.written)
