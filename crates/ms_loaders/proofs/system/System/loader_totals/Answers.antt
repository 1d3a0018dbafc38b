use Rattle.std.proofs.Common.{refl, sym}
use Rattle.ms_base.specs.Transition.{HasLoader}
use Rattle.ms_loaders.specs.System.{machine_of}
use Rattle.ms_loaders.proofs.steps.StepLemmas.{has_loader, lacks_loader}
use Rattle.ms_loaders.proofs.system.System.loader_totals.Goals as goal

pub returns-in_default-clause-no_loader : goal.returns-in_default-clause-no_loader
returns-in_default-clause-no_loader c = (
  λ _. rw (← c.self.view_is)
      (lacks_loader c.self.inside.pool c.self.inside.loaders c.args.name (sym c.in_default.ensures)),
  λ _. refl,
)

pub returns-clause-sums : goal.returns-clause-sums
returns-clause-sums c = record {
  loader = c.in-Some.loader.now.state;
  found = rw (← c.self.view_is)
      (has_loader c.self.inside.pool c.self.inside.loaders c.args.name c.in-Some.loader.now (sym c.in-Some.ensures));
  kind = c.kind.ensures;
  space = c.totals.ensures.sums;
  class_space = c.totals.ensures.class_sums;
}

pub returns-clause-no_loader : goal.returns-clause-no_loader
returns-clause-no_loader c =
    let found : HasLoader (machine_of c.self.inside.pool c.self.inside.loaders) c.args.name c.in-Some.loader.now.state =
    has_loader c.self.inside.pool c.self.inside.loaders c.args.name c.in-Some.loader.now (sym c.in-Some.ensures) in
    (λ none. absurd (cc), rw (← c.self.view_is) (λ lacks. absurd (cc (found, lacks))))
