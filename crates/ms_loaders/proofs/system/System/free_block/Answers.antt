use Rattle.std.proofs.Common.{sym}
use Rattle.ms_loader.proofs.calls.FindingLemmas.{live_is_freed}
use Rattle.ms_loader.proofs.calls.ReplacedLemmas.{ok_then, err_then}
use Rattle.ms_loaders.proofs.steps.StepLemmas.{has_loader, lacks_loader}
use Rattle.ms_loaders.proofs.system.System.free_block.Goals as goal

pub returns-in_default-clause-refused : goal.returns-in_default-clause-refused
returns-in_default-clause-refused c =
    rw (← c.self.view_is)
    (lacks_loader c.self.inside.pool c.self.inside.loaders c.args.name (sym c.in_default.ensures))

pub returns-in_default-name_of-clause-refused : goal.returns-in_default-name_of-clause-refused
returns-in_default-name_of-clause-refused c = record {
  loader = c.in-Some.loader.now.state;
  found = rw (← c.self.view_is)
      (has_loader c.self.inside.pool c.self.inside.loaders c.args.name c.in-Some.loader.now (sym c.in-Some.ensures));
  none = c.in_default-name_of.ensures.none;
}

pub returns-clause-freed : goal.returns-clause-freed
returns-clause-freed c =
    ok_then _ _ c.free.result
    (λ _ step. record {
      loader = c.in-Some.loader.now.state;
      found = rw (← c.self.view_is)
          (has_loader c.self.inside.pool c.self.inside.loaders c.args.name c.in-Some.loader.now (sym c.in-Some.ensures));
      number = c.in-Some-name_of.number;
      lies = c.in-Some-name_of.ensures.live;
      step = step;
    }) c.free.ensures.served

pub returns-clause-refused : goal.returns-clause-refused
returns-clause-refused c =
    err_then _ _ c.free.result
    (λ refusal why. absurd (live_is_freed c.args.self.now c.args.name c.in-Some-name_of.number
    c.in-Some.loader.now.state c.in-Some-name_of.ensures.live.found refusal
    (rw (← c.self.view_is)
    (has_loader c.self.inside.pool c.self.inside.loaders c.args.name c.in-Some.loader.now (sym c.in-Some.ensures)))
    c.in-Some-name_of.ensures.live.has why.0)) c.free.ensures.refused
