use Rattle.std.proofs.Common.{sym, subst}
use Rattle.ms_base.specs.State.{Machine}
use Rattle.ms_base.specs.Transition.{Transition}
use Rattle.ms_c.specs.Answers.{Steps}
use Rattle.ms_c.specs.Holding.{Held}
use Rattle.ms_c.proofs.steps.step.Goals as goal

-- what the system replies is told
pub returns-in-Some : goal.returns-in-Some
returns-in-Some c =
    let now = c.step-reply.new.self in
    subst (λ (h : Held). Steps h c.args.step c.answer_of.result c.put.new.self.slot.held) (sym c.in-Some.ensures.some) (record {
      reply = c.step-reply.result;
      now = now;
      after_is = c.put.ensures;
      answer_is = c.answer_of.ensures;
      stepped = subst (λ (m : Machine). Transition m c.args.step c.step-reply.result now) c.deref_mut.ensures.value
          c.step-reply.ensures.step;
      good = c.step-reply.ensures.good;
    })
