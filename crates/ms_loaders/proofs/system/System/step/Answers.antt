use Rattle.std.proofs.Common.{sym, ap, ◌∙◌}
use Rattle.ms_base.specs.State.{Limits}
use Rattle.ms_loaders.proofs.StepServedLemmas.{may_serve, served_goes}
use Rattle.ms_loaders.proofs.sums.FitLemmas.{machine_is_good}
use Rattle.ms_loaders.proofs.system.System.step.Goals as goal

pub serve-reply-requires : goal.serve-reply-requires
serve-reply-requires c = may_serve c.self.inside.pool c.self.inside.loaders c.self.invariant.together

pub invariant_of-self : goal.invariant_of-self
invariant_of-self c =
    let goes =
    served_goes c.self.inside.pool c.self.inside.loaders c.args.step c.serve-reply.result c.serve-reply.new.source
    c.serve-reply.new.loaders c.self.invariant.together c.committed.ensures.sound c.serve-reply.ensures in
    record {
      together = goes.together;
      policy_is = c.self.invariant.policy_is ∙ ap (λ (limits : Limits). limits.policy) (sym goes.limits);
    }

pub returns-clause-step : goal.returns-clause-step
returns-clause-step c =
    rw (← c.self.view_is)
    (served_goes c.self.inside.pool c.self.inside.loaders c.args.step c.serve-reply.result c.serve-reply.new.source
    c.serve-reply.new.loaders c.self.invariant.together c.committed.ensures.sound c.serve-reply.ensures).step_is

pub returns-clause-good : goal.returns-clause-good
returns-clause-good c =
    machine_is_good c.serve-reply.new.source c.serve-reply.new.loaders
    (served_goes c.self.inside.pool c.self.inside.loaders c.args.step c.serve-reply.result c.serve-reply.new.source
    c.serve-reply.new.loaders c.self.invariant.together c.committed.ensures.sound c.serve-reply.ensures).together
