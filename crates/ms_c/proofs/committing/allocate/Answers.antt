use Rattle.std.proofs.Common.{sym, subst}
use Rattle.ms_base.specs.declared.step.Reply.TheVariants.{At, Refused}
use Rattle.ms_base.specs.Request.{alloc_in}
use Rattle.ms_base.specs.State.{Machine}
use Rattle.ms_base.specs.Transition.{Transition}
use Rattle.ms_c.specs.Answers.{Steps}
use Rattle.ms_c.specs.Holding.{Held}
use Rattle.ms_c.proofs.committing.allocate.Goals as goal

-- the block is allocated
pub returns-in-Ok-clause-step : goal.returns-in-Ok-clause-step
returns-in-Ok-clause-step c =
    let step = alloc_in c.args.space c.args.loader c.args.block c.args.words in
    let now = c.allocate_with_run-answer.new.self in
    subst (λ (h : Held). Steps h step c.of.result c.put.new.self.slot.held) (sym c.in-Some.ensures.some) (record {
      reply = At c.in-Ok.made.start;
      now = now;
      after_is = c.put.ensures;
      answer_is = c.of.ensures;
      stepped = subst (λ (m : Machine). Transition m step (At c.in-Ok.made.start) now) c.deref_mut.ensures.value
          c.in-Ok.ensures.served;
      good = c.in-Ok.ensures.good;
    })

-- it is refused, and the answer says why
pub returns-in-Err-clause-step : goal.returns-in-Err-clause-step
returns-in-Err-clause-step c =
    let step = alloc_in c.args.space c.args.loader c.args.block c.args.words in
    let now = c.allocate_with_run-answer.new.self in
    subst (λ (h : Held). Steps h step c.answer_of.result c.put.new.self.slot.held) (sym c.in-Some.ensures.some) (record {
      reply = Refused c.in-Err.refusal;
      now = now;
      after_is = c.put.ensures;
      answer_is = c.answer_of.ensures;
      stepped = subst (λ (m : Machine). Transition m step (Refused c.in-Err.refusal) now) c.deref_mut.ensures.value
          c.in-Err.ensures.refused;
      good = c.in-Err.ensures.good;
    })
