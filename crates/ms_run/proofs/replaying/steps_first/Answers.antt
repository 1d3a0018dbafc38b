use Rattle.std.proofs.Common.{◌≡◌, ◌∙◌, ℕ, ap, length, subst, sym, take, arith}
use Rattle.ms_trace.specs.declared.trace.Line.{Line}
use Rattle.ms_run.specs.Shares.{AreSteps}
use Rattle.ms_run.proofs.replays.ReplayLemmas.{steps_more, stops_there, stops_past}
use Rattle.ms_run.proofs.replaying.steps_first.Goals as goal

pub loop-count-init : goal.loop-count-init
loop-count-init c = λ k line within. absurd (omega (arith, within))

pub loop-count-preserved : goal.loop-count-preserved
loop-count-preserved c =
    let asked = ap (λ (line : Line). line.command) (sym c.index-lines-count.is) ∙ sym c.command.ensures in
    steps_more c.args.lines.now c.loop-count.count _ c.in-Step.field-0 c.loop-count-test.true c.loop-count.invariant
    (asked ∙ c.in-Step.is)

pub returns-in_default : goal.returns-in_default
returns-in_default c = record {
  within = c.loop-count.auto.count-end;
  steps = c.loop-count.invariant;
  stops = stops_there c.args.lines.now c.loop-count.count _
      (λ step is. c.in_default.not-Step step (c.command.ensures ∙ ap (λ (line : Line). line.command) c.index-lines-count.is ∙ is));
}

pub returns-clause-steps : goal.returns-clause-steps
returns-clause-steps c =
    let ends : c.loop-count.count ≡ length c.args.lines.now =
    omega (arith, c.loop-count-test.false, c.loop-count.auto.count-end) in
    subst (λ (n : ℕ). AreSteps (take n c.args.lines.now)) ends c.loop-count.invariant

pub returns-clause-stops : goal.returns-clause-stops
returns-clause-stops c = stops_past c.args.lines.now (length c.args.lines.now) (omega arith)
