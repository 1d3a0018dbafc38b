use Rattle.std.proofs.Common.{arith, List, subst}
use Rattle.std.proofs.lemmas.Result.{on_ok_weaker}
use Rattle.ms_base.specs.State.{empty_machine, limits_of}
use Rattle.ms_trace.specs.declared.trace.Line.{Line}
use Rattle.ms_run.specs.Course.{begun}
use Rattle.ms_run.specs.Replay.{Answers, IsReplay}
use Rattle.ms_run.specs.Gating.{AreGatedByTurn}
use Rattle.ms_run.proofs.GateLemmas.{one_worker_gated}
use Rattle.ms_run.proofs.replays.ReplayLemmas.{alone_replays}
use Rattle.ms_run.proofs.replaying.replay_into.Goals as goal

pub returns-then-settings-ne1-clause-answers : goal.returns-then-settings-ne1-clause-answers
returns-then-settings-ne1-clause-answers g c = on_ok_weaker c.take_turns.result (λ told. (
  told.0,
  told.1,
  record {
    own = subst (λ (l : List Line). IsReplay (limits_of c.args.settings) c.args.settings.workers l told.0)
        c.as_slice-lines.ensures told.2.0;
    run = λ one. absurd (c.if-settings-ne1.true one);
    detailed = told.2.1;
  },
))
    c.take_turns.ensures.answers

pub returns-clause-answers : goal.returns-clause-answers
returns-clause-answers g c =
    let told = c.in_ok-answer_alone.ensures.answers in (
      told.0,
      told.1,
      record {
        own = alone_replays c.args.settings c.args.trace.now.lines _ told.0
            (let one = c.if-settings-ne1.false in omega (arith, one)) c.as_slice-lines.ensures (told.2.0, told.2.1);
        run = λ one. (
          told.2.0,
          subst (λ (l : List Line). Answers (begun (empty_machine (limits_of c.args.settings))) l told.0 told.2.0)
              c.as_slice-lines.ensures told.2.1,
        );
        detailed = told.2.2;
      },
    )

pub returns-then-settings-ne1-clause-gated : goal.returns-then-settings-ne1-clause-gated
returns-then-settings-ne1-clause-gated g c =
    on_ok_weaker c.take_turns.result (λ gated.
    subst (AreGatedByTurn (g.G.Gate.told c.args.gate.now) c.args.settings.workers) c.as_slice-lines.ensures gated)
    c.take_turns.ensures.gated

pub returns-clause-gated : goal.returns-clause-gated
returns-clause-gated g c =
    one_worker_gated (g.G.Gate.told c.args.gate.now) c.args.settings.workers _ c.args.trace.now.lines
    (let one = c.if-settings-ne1.false in omega (arith, one)) c.as_slice-lines.ensures c.in_ok-answer_alone.ensures.gated
