use Rattle.ms_loader.proofs.calls.FindingLemmas.{run_named, named_run, some_then, none_then}
use Rattle.ms_loader.proofs.loader.Loader.name_of.Goals as goal

pub returns-clause-live : goal.returns-clause-live
returns-clause-live c = rw (← c.self.view_is)
    (some_then _ _ c.name_of.result (λ name. run_named c.self.inside name c.args.block c.self.invariant)
    c.name_of.ensures.named)

pub returns-clause-none : goal.returns-clause-none
returns-clause-none c = rw (← c.self.view_is)
    (none_then _ _ c.name_of.result
    (λ each name run. each name (named_run c.self.inside name c.args.block c.self.invariant run))
    c.name_of.ensures.none)
