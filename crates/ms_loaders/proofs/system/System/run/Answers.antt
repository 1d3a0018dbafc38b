use Rattle.std.proofs.Common.{◌≡◌, Result, Ok, Err, OnErr, refl, sym, ◌∙◌, take, get_or, arith, subst}
use Rattle.std.proofs.lemmas.List.{take_more}
use Rattle.ms_base.specs.declared.step.Step.TheVariants.{New}
use Rattle.ms_base.specs.declared.kind.Kind.TheVariants.{Standard}
use Rattle.ms_base.specs.Good.{IsGood}
use Rattle.ms_base.proofs.granules.FrontSumLemmas.{nothing_is_left}
use Rattle.ms_loaders.proofs.sums.FitLemmas.{machine_is_good}
use Rattle.ms_loaders.proofs.steps.RunLemmas.{run_on}
use Rattle.ms_loaders.proofs.system.System.run.Goals as goal
use Rattle.ms_loaders.proofs.system.System.run.Goals.{in-Refused, in_default}

pub returns-in_err-replies-clause-before : goal.returns-in_err-replies-clause-before
returns-in_err-replies-clause-before c =
    subst IsGood c.self.view_is (machine_is_good c.self.inside.pool c.self.inside.loaders c.self.invariant.together)

pub returns-in_err-replies-clause-after : goal.returns-in_err-replies-clause-after
returns-in_err-replies-clause-after c =
    subst IsGood c.self.view_is (machine_is_good c.self.inside.pool c.self.inside.loaders c.self.invariant.together)

pub returns-in_err-replies-clause-emptied : goal.returns-in_err-replies-clause-emptied
returns-in_err-replies-clause-emptied c =
    nothing_is_left _
    (subst IsGood c.self.view_is (machine_is_good c.self.inside.pool c.self.inside.loaders c.self.invariant.together))

pub loop-step-preserved : goal.loop-step-preserved
loop-step-preserved c =
    let same : c.step.result ≡ c.match-step.reply =
    elim c.match-step.branch [
      | in-Refused w ↦ w.in-Refused.is ∙ sym w.reply-is
      | in_default w ↦ sym w.reply-is
    ] in
    record {
      so_far =
          rw (
            take_more c.args.steps.now c.loop-step.step-index (New 0 Standard) c.loop-step-test.true,
            c.push_reserved.ensures.items,
          )
          (run_on (take c.loop-step.step-index c.args.steps.now) c.loop-step.replies.items c.args.self.now
          c.loop-step.self c.step.new.self
          (get_or c.args.steps.now c.loop-step.step-index (New 0 Standard)) c.match-step.reply
          c.loop-step.invariant.so_far (rw same at c.step.ensures.step));
      told = omega (arith, c.push_reserved.ensures.len, c.loop-step.invariant.told);
      room = omega (arith, c.push_reserved.ensures.capacity, c.loop-step.invariant.room);
    }

pub returns-clause-before : goal.returns-clause-before
returns-clause-before c =
    subst IsGood c.self.view_is (machine_is_good c.self.inside.pool c.self.inside.loaders c.self.invariant.together)

pub returns-clause-after : goal.returns-clause-after
returns-clause-after c =
    subst IsGood c.self-2.view_is
    (machine_is_good c.self-2.inside.pool c.self-2.inside.loaders c.self-2.invariant.together)

pub returns-clause-emptied : goal.returns-clause-emptied
returns-clause-emptied c =
    nothing_is_left _
    (subst IsGood c.self-2.view_is
    (machine_is_good c.self-2.inside.pool c.self-2.inside.loaders c.self-2.invariant.together))

-- What is so is so where there is an error.
where_err : {A E : Type 0} (P : Type 0) (answer : Result A E) → P → OnErr answer P
where_err P (Ok a) so = tt
where_err P (Err e) so = so

pub returns-in_err-replies-clause-unchanged : goal.returns-in_err-replies-clause-unchanged
returns-in_err-replies-clause-unchanged c = where_err _ c.from_residual.result refl
