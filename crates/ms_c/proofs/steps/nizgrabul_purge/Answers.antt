use Rattle.std.proofs.Common.{◌+◌, length, ap, sym, subst, ◌∙◌}
use Rattle.ms_base.specs.declared.step.Reply.TheVariants.{Ok as Done}
use Rattle.ms_base.specs.declared.step.Step.TheVariants.{Purge}
use Rattle.ms_base.specs.State.{Machine}
use Rattle.ms_base.specs.Transition.{Transition}
use Rattle.ms_c.specs.declared.answer.Answer.{Answer}
use Rattle.ms_c.specs.Answers.{Purges, numbers}
use Rattle.ms_c.specs.Holding.{Held}
use Rattle.ms_c.proofs.steps.nizgrabul_purge.Goals as goal

-- the nodes that went are counted
pub returns-in-Some : goal.returns-in-Some
returns-in-Some c =
    let now = c.purge-gone.new.self in
    subst (λ (h : Held). Purges h c.of.result c.put.new.self.slot.held) (sym c.in-Some.ensures.some) (record {
      now = now;
      after_is = c.put.ensures;
      stepped = subst (λ (m : Machine). Transition m Purge Done now) c.deref_mut.ensures.value c.purge-gone.ensures.step;
      answer_is = c.of.ensures ∙ ap (λ (a : Answer). numbers 0 a.value 0 0) (sym c.of.ensures);
      gone = ap (λ (a : Answer). a.value + length now.slots) c.of.ensures ∙ c.purge-gone.ensures.gone
          ∙ ap (λ (m : Machine). length m.slots) c.deref_mut.ensures.value;
    })
