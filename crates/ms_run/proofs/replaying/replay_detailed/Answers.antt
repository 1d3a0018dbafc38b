-- The list had no answer before, so it has those to the trace and no others.
use Rattle.std.proofs.Common.{[], List, append-nil, subst, sym}
use Rattle.std.specs.List.{All}
use Rattle.ms_base.specs.State.{empty_machine, limits_of}
use Rattle.ms_answers.specs.declared.replies.Answer.{Answer}
use Rattle.ms_run.specs.Course.{begun}
use Rattle.ms_run.specs.Replay.{Answers, IsDetailed, IsReplay}
use Rattle.ms_run.proofs.AloneLemmas.{none_before}
use Rattle.ms_run.proofs.replaying.replay_detailed.Goals as goal

pub returns-clause-own : goal.returns-clause-own
returns-clause-own g c =
    let told = c.in_ok-replay_into.ensures.answers in
    subst (λ (l : List Answer). IsReplay (limits_of c.args.settings) c.args.settings.workers c.args.trace.now.lines l)
    (none_before c.in_ok-answers.answers.items told.0 _ c.in_ok-answers.ensures.items
    (told.1 c.in_ok-answers.answers [] (sym (append-nil c.in_ok-answers.answers.items)))) told.2.own

pub returns-clause-run : goal.returns-clause-run
returns-clause-run g c = λ one.
    let told = c.in_ok-replay_into.ensures.answers in
    let ran = told.2.run one in (
      ran.0,
      subst (λ (l : List Answer).
          Answers (begun (empty_machine (limits_of c.args.settings))) c.args.trace.now.lines l ran.0)
          (none_before c.in_ok-answers.answers.items told.0 _ c.in_ok-answers.ensures.items
          (told.1 c.in_ok-answers.answers [] (sym (append-nil c.in_ok-answers.answers.items)))) ran.1,
    )

pub returns-clause-detailed : goal.returns-clause-detailed
returns-clause-detailed g c =
    let told = c.in_ok-replay_into.ensures.answers in
    subst (λ (l : List Answer). All (IsDetailed c.args.verbosity) l)
    (none_before c.in_ok-answers.answers.items told.0 _ c.in_ok-answers.ensures.items
    (told.1 c.in_ok-answers.answers [] (sym (append-nil c.in_ok-answers.answers.items)))) told.2.detailed
