use Rattle.std.proofs.Common.{◌≡◌, ◌-◌, ℕ, sym, ap, ◌∙◌, arith}
use Rattle.ms_base.specs.Policy.{granule_of}
use Rattle.ms_base.specs.State.{Limits}
use Rattle.ms_loaders.specs.Committing.{front_before, run_of}
use Rattle.ms_loaders.proofs.sums.FitLemmas.{machine_is_good}
use Rattle.ms_loaders.proofs.StepServedLemmas.{may_serve}
use Rattle.ms_loaders.proofs.steps.StepGoesLemmas.{allocates_at, allocates_none}
use Rattle.ms_loaders.proofs.AllocTellsLemmas.{committed_in_all, step_tells}
use Rattle.ms_loaders.proofs.system.System.allocate_with_run.Goals as goal

pub allocate-answer-requires : goal.allocate-answer-requires
allocate-answer-requires c = may_serve c.self.inside.pool c.self.inside.loaders c.self.invariant.together

pub invariant_of-self : goal.invariant_of-self
invariant_of-self c =
    let goes =
    allocates_none c.self.inside.pool c.self.inside.loaders c.self.invariant.together c.args.space c.args.name
    c.args.block c.args.words c.in-Err.refusal c.allocate-answer.new.source c.allocate-answer.new.loaders
    c.committed.ensures.sound c.in-Err.ensures.refused in
    record {
      together = goes.together;
      policy_is = c.self.invariant.policy_is ∙ ap (λ (limits : Limits). limits.policy) (sym goes.limits);
    }

pub returns-in-Err-clause-refused : goal.returns-in-Err-clause-refused
returns-in-Err-clause-refused c =
    rw (← c.self.view_is)
    (allocates_none c.self.inside.pool c.self.inside.loaders c.self.invariant.together c.args.space c.args.name
    c.args.block c.args.words c.in-Err.refusal c.allocate-answer.new.source c.allocate-answer.new.loaders
    c.committed.ensures.sound c.in-Err.ensures.refused).step_is

pub returns-in-Err-clause-good : goal.returns-in-Err-clause-good
returns-in-Err-clause-good c =
    machine_is_good c.allocate-answer.new.source c.allocate-answer.new.loaders
    (allocates_none c.self.inside.pool c.self.inside.loaders c.self.invariant.together c.args.space c.args.name
    c.args.block c.args.words c.in-Err.refusal c.allocate-answer.new.source c.allocate-answer.new.loaders
    c.committed.ensures.sound c.in-Err.ensures.refused).together

pub invariant_of-self-2 : goal.invariant_of-self-2
invariant_of-self-2 c =
    let goes =
    allocates_at c.self.inside.pool c.self.inside.loaders c.self.invariant.together c.args.space c.args.name
    c.args.block c.args.words c.in-Ok.start c.allocate-answer.new.source c.allocate-answer.new.loaders
    c.committed.ensures.sound c.in-Ok.ensures.served in
    record {
      together = goes.together;
      policy_is = c.self.invariant.policy_is ∙ ap (λ (limits : Limits). limits.policy) (sym goes.limits);
    }

pub returns-clause-served : goal.returns-clause-served
returns-clause-served c =
    rw (← c.self.view_is)
    (allocates_at c.self.inside.pool c.self.inside.loaders c.self.invariant.together c.args.space c.args.name
    c.args.block c.args.words c.in-Ok.start c.allocate-answer.new.source c.allocate-answer.new.loaders
    c.committed.ensures.sound c.in-Ok.ensures.served).step_is

pub returns-clause-good : goal.returns-clause-good
returns-clause-good c =
    machine_is_good c.allocate-answer.new.source c.allocate-answer.new.loaders
    (allocates_at c.self.inside.pool c.self.inside.loaders c.self.invariant.together c.args.space c.args.name
    c.args.block c.args.words c.in-Ok.start c.allocate-answer.new.source c.allocate-answer.new.loaders
    c.committed.ensures.sound c.in-Ok.ensures.served).together

pub returns-clause-run : goal.returns-clause-run
returns-clause-run c =
    let old = c.self.inside.pool in
    let new = c.allocate-answer.new.source in
    let edge = c.edge_at-edge.result in
    let now = c.edge_after-now.result in
    let came = c.saturating_sub-came.result in
    let told : came ≡ committed_in_all new - committed_in_all old =
    omega (arith, c.saturating_sub-came.ensures, c.committed.ensures.count, c.committed-before.ensures.count) in
    let run_is : c.run_between.result
    ≡ run_of (granule_of old.limits.policy) (front_before edge now) now.start now.front came =
    c.run_between.ensures ∙ ap (λ (g : ℕ). run_of g (front_before edge now) now.start now.front came)
    (c.granule.ensures ∙ ap granule_of c.self.invariant.policy_is) in
    rw (← c.self.view_is, run_is) (step_tells c.args.space old new c.self.inside.loaders c.allocate-answer.new.loaders
    c.args.name c.args.block c.args.words c.in-Ok.start edge now came c.self.invariant.together
    c.committed.ensures.sound c.in-Ok.ensures.served c.edge_at-edge.ensures.edge c.edge_after-now.ensures.edge told)
