use Rattle.std.proofs.Common.{[], List, append-nil, subst, sym, ◌∙◌}
use Rattle.std.proofs.lemmas.Result.{on_ok_weaker}
use Rattle.ms_answers.specs.declared.replies.Answer.{Answer}
use Rattle.ms_run.specs.Sink.{PutsAll}
use Rattle.ms_run.specs.Turn.{worker_in}
use Rattle.ms_run.proofs.AloneLemmas.{none_before}
use Rattle.ms_run.proofs.GateLemmas.{alone_gated, still_gated}
use Rattle.ms_run.proofs.PhaseLemmas.{ended_alone}
use Rattle.ms_run.proofs.phase.run_phase.Goals as goal

pub returns-then-shares-eq1-clause-phase : goal.returns-then-shares-eq1-clause-phase
returns-then-shares-eq1-clause-phase g c =
    let told = c.in_ok-answer_lines.ensures.answers in
    let kept = told.1 c.new-answers.result [] (sym (append-nil c.new-answers.result.items)) in (
      told.0,
      subst (λ (l : List Answer). PutsAll g.S.AnswerSink.took l c.args.sink.now c.put_all.new.sink)
          (sym (none_before c.new-answers.result.items told.0 _ c.new-answers.ensures.items kept))
          c.in_ok-put_all.ensures,
      (
        told.2.0,
        ended_alone (worker_in c.args.turn.now) c.args.lines.now c.args.run _ told.0 c.requires.counted.good
            c.in_ok-answer_lines.ensures.counted.good c.requires.steps told.2.1,
      ),
    )

pub returns-clause-phase : goal.returns-clause-phase
returns-clause-phase g c = c.run_shares.ensures.phase c.args.turn.now (record {
  first = c.activate.ensures.first;
  phase = c.activate.ensures.phase;
  workers = c.activate.ensures.workers;
})

pub returns-then-shares-eq1-clause-gated : goal.returns-then-shares-eq1-clause-gated
returns-then-shares-eq1-clause-gated g c =
    still_gated (g.G.Gate.told c.args.manner.now.gate.now) c.args.turn.now c.activate.new.self c.args.lines.now (record {
      first = c.activate.ensures.first;
      phase = c.activate.ensures.phase;
      workers = c.activate.ensures.workers;
    })
    (alone_gated (g.G.Gate.told c.args.manner.now.gate.now) c.activate.new.self c.args.lines.now c.worker.result
    (sym c.shares.ensures.count ∙ c.if-shares-eq1.true) c.worker.ensures c.activate.ensures.shares
    c.in_ok-answer_lines.ensures.gated)

pub returns-clause-gated : goal.returns-clause-gated
returns-clause-gated g c =
    on_ok_weaker c.run_shares.result (λ gated.
    still_gated (g.G.Gate.told c.args.manner.now.gate.now) c.args.turn.now c.activate.new.self c.args.lines.now (record {
      first = c.activate.ensures.first;
      phase = c.activate.ensures.phase;
      workers = c.activate.ensures.workers;
    }) gated) c.run_shares.ensures.gated

pub returns-clause-counted : goal.returns-clause-counted
returns-clause-counted g c = c.run_shares.ensures.counted c.requires.counted.kept
