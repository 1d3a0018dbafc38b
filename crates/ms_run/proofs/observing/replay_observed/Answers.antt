use Rattle.std.proofs.Common.{◌≡◌, refl, subst, sym}
use Rattle.ms_base.specs.State.{Machine, empty_machine, limits_of}
use Rattle.ms_loader.specs.Amounts.{amounts_of, no_amounts}
use Rattle.ms_run.specs.Course.{begun}
use Rattle.ms_run.proofs.SeenLemmas.{all_observed, to_trace}
use Rattle.ms_run.proofs.observing.replay_observed.Goals as goal

pub watch_lines-requires-clause-counted : goal.watch_lines-requires-clause-counted
watch_lines-requires-clause-counted g c = record {
  good = c.in_ok-run.ensures.good;
  used = λ counts. c.in_ok-run.ensures.used;
  kept = c.in_ok-run.ensures.kept;
  counting = λ full. refl;
}

pub watch_lines-requires-clause-taken : goal.watch_lines-requires-clause-taken
watch_lines-requires-clause-taken g c =
    (begun (empty_machine (limits_of c.args.settings)), c.in_ok-run.ensures.taken)

pub watch_lines-requires-clause-none : goal.watch_lines-requires-clause-none
watch_lines-requires-clause-none g c =
    subst (λ (m : Machine). amounts_of m ≡ no_amounts) (sym c.in_ok-run.ensures.taken.state) refl

pub returns-clause-observed : goal.returns-clause-observed
returns-clause-observed g c =
    all_observed g.S.AnswerSink.took g.O.Observer.saw (limits_of c.args.settings) c.args.trace.now.lines _ _ _ _
    c.args.sink.now _ c.args.observer.now _ c.as_slice.ensures c.in_ok-run.ensures.taken
    c.in_ok-watch_lines.ensures.watched c.in_ok-totals_of.ensures.of c.in_ok-totals_of.ensures.detailed

pub returns-clause-answers : goal.returns-clause-answers
returns-clause-answers g c = λ one.
    to_trace g.S.AnswerSink.took g.O.Observer.saw c.args.settings c.args.trace.now.lines _ c.args.sink.now _
    c.args.observer.now _ one
    (all_observed g.S.AnswerSink.took g.O.Observer.saw (limits_of c.args.settings) c.args.trace.now.lines _ _ _ _
    c.args.sink.now _ c.args.observer.now _ c.as_slice.ensures c.in_ok-run.ensures.taken
    c.in_ok-watch_lines.ensures.watched c.in_ok-totals_of.ensures.of c.in_ok-totals_of.ensures.detailed)
