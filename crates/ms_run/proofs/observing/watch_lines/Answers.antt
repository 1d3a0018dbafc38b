use Rattle.std.proofs.Common.{◌≡◌, ◌∙◌, ◌∷◌, [], ℕ, List, ap, arith, length, subst, sym, take}
use Rattle.std.proofs.Math.Seq.{take-length}
use Rattle.ms_trace.specs.declared.trace.Line.{Line}
use Rattle.ms_run.specs.Observing.{PutsAndSees, WatchesLines}
use Rattle.ms_run.proofs.SeenLemmas.{none_watched, one_more_watched}
use Rattle.ms_run.proofs.observing.watch_lines.Goals as goal

pub loop-line-init : goal.loop-line-init
loop-line-init g c = record {
  watched = none_watched g.S.AnswerSink.took g.O.Observer.saw c.args.run.now c.args.sink.now c.args.observer.now;
  counted = c.requires.counted;
  amounts = sym c.requires.none;
}

pub watch_line-requires-clause-taken : goal.watch_line-requires-clause-taken
watch_line-requires-clause-taken g c =
    let its = c.loop-line.invariant.watched.4.1 c.requires.taken.0 c.requires.taken.1 in (its.0, its.2)

pub loop-line-preserved : goal.loop-line-preserved
loop-line-preserved g c = record {
  watched = one_more_watched g.S.AnswerSink.took g.O.Observer.saw _ _ _ c.args.lines.now c.loop-line.line-index _
      c.args.sink.now c.loop-line.sink c.watch_line.new.sink c.args.observer.now c.loop-line.observer
      c.watch_line.new.observer c.loop-line.invariant.watched c.loop-line-test.true
      (subst (λ (line : Line). PutsAndSees g.S.AnswerSink.took g.O.Observer.saw
      (WatchesLines c.loop-line.run (line ∷ []) c.watch_line.new.run) c.loop-line.sink c.watch_line.new.sink
      c.loop-line.observer c.watch_line.new.observer) c.line-item.is c.in_ok-amounts.ensures.watched);
  counted = c.in_ok-amounts.ensures.counted;
  amounts = c.in_ok-amounts.ensures.amounts;
}

pub returns-clause-watched : goal.returns-clause-watched
returns-clause-watched g c =
    let ends : c.loop-line.line-index ≡ length c.args.lines.now =
    omega (arith, c.loop-line-test.false, c.loop-line.auto.line-index-end) in
    subst (λ (lines : List Line). PutsAndSees g.S.AnswerSink.took g.O.Observer.saw
    (WatchesLines c.args.run.now lines c.loop-line.run) c.args.sink.now c.loop-line.sink c.args.observer.now
    c.loop-line.observer)
    (ap (λ (n : ℕ). take n c.args.lines.now) ends ∙ take-length c.args.lines.now) c.loop-line.invariant.watched

pub returns-clause-counted : goal.returns-clause-counted
returns-clause-counted g c = c.loop-line.invariant.counted
