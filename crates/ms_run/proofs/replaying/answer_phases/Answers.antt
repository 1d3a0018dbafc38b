use Rattle.std.proofs.Common.{◌≡◌, ◌++◌, ◌∷◌, [], List, None, arith, refl, subst, sym}
use Rattle.std.proofs.lemmas.List.Elements.{All-append, All-nil}
use Rattle.ms_answers.specs.declared.replies.Answer.{Answer}
use Rattle.ms_trace.specs.declared.trace.Line.{Line}
use Rattle.ms_trace.specs.Steps.{step_of}
use Rattle.ms_run.specs.Replay.{IsDetailed, IsEnd}
use Rattle.ms_run.specs.Sink.{PutsAll}
use Rattle.ms_run.proofs.AloneLemmas.{puts_more, puts_none}
use Rattle.ms_run.proofs.replays.ReplayLemmas.{phases_start, steps_there, stops_next, phases_more, phases_next}
use Rattle.ms_run.proofs.replays.ReplayLemmas.{phases_end, phases_gated}
use Rattle.ms_run.proofs.DetailLemmas.{one_detailed}
use Rattle.ms_run.proofs.replaying.answer_phases.Goals as goal

pub loop-at-init : goal.loop-at-init
loop-at-init g c = record {
  phases = (
    [],
    puts_none g.S.AnswerSink.took c.args.sink.now,
    (
      phases_start (g.G.Gate.told c.args.manner.now.gate.now) c.args.settings c.args.lines.now _ c.args.turn.now c.in_ok-run.ensures.taken
          c.requires.numbered c.requires.workers c.requires.phase c.args.settings.workers_some,
      All-nil (IsDetailed c.args.manner.now.verbosity),
    ),
  );
  counted = record {
    good = c.in_ok-run.ensures.good;
    used = λ counts. c.in_ok-run.ensures.used;
    kept = c.in_ok-run.ensures.kept;
    counting = λ full. refl;
  };
}

pub run_phase-requires-clause-counted : goal.run_phase-requires-clause-counted
run_phase-requires-clause-counted g c κs within = c.loop-at.invariant.counted

pub run_phase-requires-clause-steps : goal.run_phase-requires-clause-steps
run_phase-requires-clause-steps g c κs within =
    steps_there c.args.lines.now c.loop-at.at c.steps_first-count.result c.steps_first-count.ensures.steps

pub end_phase-requires-clause-no_step : goal.end_phase-requires-clause-no_step
end_phase-requires-clause-no_step g c =
    subst (λ (line : Line). step_of line.command ≡ None) (sym c.index-lines-at.is)
    (stops_next c.args.lines.now c.loop-at.at c.steps_first-count.result _ c.steps_first-count.ensures.stops
    c.if-at-lines.true)

pub loop-at-preserved-then-at-lines : goal.loop-at-preserved-then-at-lines
loop-at-preserved-then-at-lines g c = record {
  phases =
      let so_far = c.loop-at.invariant.phases in
      let worked = c.in_ok-run-2.ensures.phase in
      let ended = c.in_ok-end_phase.ensures.answered in
      let told = ended.2.0 in
      let more = phases_more (g.G.Gate.told c.args.manner.now.gate.now) _ _ _ _ c.loop-at.turn _ c.args.lines.now c.loop-at.at c.steps_first-count.result
      so_far.0 worked.0 so_far.2.0 c.steps_first-count.ensures.within worked.2.1 c.in_ok-run-2.ensures.turn
      (steps_there c.args.lines.now c.loop-at.at c.steps_first-count.result c.steps_first-count.ensures.steps)
      c.in_ok-run-2.ensures.gated in (
        (so_far.0 ++ worked.0) ++ told ∷ [],
        puts_more g.S.AnswerSink.took (so_far.0 ++ worked.0) (told ∷ []) c.args.sink.now c.run_phase.new.sink
            c.end_phase.new.sink
            (puts_more g.S.AnswerSink.took so_far.0 worked.0 c.args.sink.now c.loop-at.sink c.run_phase.new.sink
            so_far.1 worked.1)
            (subst (λ (l : List Answer). PutsAll g.S.AnswerSink.took l c.run_phase.new.sink c.end_phase.new.sink)
            ended.2.1 ended.1),
        (
          phases_next (g.G.Gate.told c.args.manner.now.gate.now) _ _ _ _ _ c.args.lines.now _ _ (so_far.0 ++ worked.0) told more c.if-at-lines.true
              (λ course taken. subst (λ (line : Line). IsEnd course line told) c.index-lines-at.is (ended.2.3 course taken))
              c.in_ok-end_phase.ensures.turn,
          one_detailed c.args.manner.now.verbosity (so_far.0 ++ worked.0) told ended.2.2
              (All-append (IsDetailed c.args.manner.now.verbosity) so_far.0 worked.0 so_far.2.1 worked.2.0),
        ),
      );
  counted = c.in_ok-run-2.ensures.counted;
}

pub loop-at-preserved : goal.loop-at-preserved
loop-at-preserved g c = record {
  phases =
      let so_far = c.loop-at.invariant.phases in
      let worked = c.in_ok-run-2.ensures.phase in (
        so_far.0 ++ worked.0,
        puts_more g.S.AnswerSink.took so_far.0 worked.0 c.args.sink.now c.loop-at.sink c.run_phase.new.sink so_far.1
            worked.1,
        (
          phases_more (g.G.Gate.told c.args.manner.now.gate.now) _ _ _ _ c.loop-at.turn _ c.args.lines.now c.loop-at.at c.steps_first-count.result
              so_far.0 worked.0 so_far.2.0 c.steps_first-count.ensures.within worked.2.1 c.in_ok-run-2.ensures.turn
              (steps_there c.args.lines.now c.loop-at.at c.steps_first-count.result c.steps_first-count.ensures.steps)
              c.in_ok-run-2.ensures.gated,
          All-append (IsDetailed c.args.manner.now.verbosity) so_far.0 worked.0 so_far.2.1 worked.2.0,
        ),
      );
  counted = c.in_ok-run-2.ensures.counted;
}

pub returns-clause-answers : goal.returns-clause-answers
returns-clause-answers g c =
    let so_far = c.loop-at.invariant.phases in (
      so_far.0,
      so_far.1,
      (
        phases_end (g.G.Gate.told c.args.manner.now.gate.now) c.args.settings c.args.lines.now c.loop-at.at so_far.0 c.loop-at.run
            c.loop-at.turn so_far.2.0 (omega (arith, c.loop-at-test.false)),
        so_far.2.1,
      ),
    )

pub returns-clause-gated : goal.returns-clause-gated
returns-clause-gated g c =
    let so_far = c.loop-at.invariant.phases in
    phases_gated (g.G.Gate.told c.args.manner.now.gate.now) c.args.settings c.args.lines.now c.loop-at.at so_far.0
    c.loop-at.run c.loop-at.turn so_far.2.0 (omega (arith, c.loop-at-test.false))

pub end_phase-requires-clause-used : goal.end_phase-requires-clause-used
end_phase-requires-clause-used g c = c.in_ok-run-2.ensures.counted.used refl
