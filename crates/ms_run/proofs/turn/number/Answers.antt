use Rattle.std.proofs.Common.{◌∙◌, arith, refl, sym, true, false}
use Rattle.ms_run.proofs.replays.ReplayLemmas.{none_asked}
use Rattle.ms_run.proofs.TurnLemmas.{step_numbered, end_numbered}
use Rattle.ms_run.proofs.turn.number.Goals as goal

pub returns-in_default : goal.returns-in_default
returns-in_default c = record {
  below = c.requires.below;
  names = refl;
  numbered = λ lines its.
      end_numbered lines c.args.workers c.args.first.now c.args.next its (omega (arith, c.requires.below)) c.requires.few
      c.args.line.now (none_asked c.args.line.now.command
      (λ step is. c.in_default.not-Step step (c.command.ensures ∙ is)));
}

pub returns-then-assign-clause-numbered : goal.returns-then-assign-clause-numbered
returns-then-assign-clause-numbered c = λ lines its.
    step_numbered lines c.args.workers c.args.first.now c.args.next its (omega (arith, c.requires.below)) c.requires.few
    c.args.line.now c.in-Step.step c.loader_named.result _ c.assign.new.first c.assign.result true
    (sym c.command.ensures ∙ c.in-Step.is)
    c.loader_named.ensures (omega (arith, c.requires.below, c.requires.few)) c.assign.ensures.assigns c.if-assign.true

pub returns-clause-numbered : goal.returns-clause-numbered
returns-clause-numbered c = λ lines its.
    step_numbered lines c.args.workers c.args.first.now c.args.next its (omega (arith, c.requires.below)) c.requires.few
    c.args.line.now c.in-Step.step c.loader_named.result _ c.assign.new.first c.assign.result false
    (sym c.command.ensures ∙ c.in-Step.is)
    c.loader_named.ensures (omega (arith, c.requires.below, c.requires.few)) c.assign.ensures.assigns c.if-assign.false
