use Rattle.ms_loaders.proofs.steps.PurgeStepLemmas.{machine_purged_is}
use Rattle.ms_loaders.proofs.system.System.purge.Goals as goal

pub returns-clause-step : goal.returns-clause-step
returns-clause-step c =
    rw (← c.self.view_is)
    (machine_purged_is c.self.inside.pool c.purge-gone.new.self c.self.inside.loaders c.purge-gone.ensures.purged.1
    c.committed.ensures.sound c.self.invariant.together)

pub returns-clause-gone : goal.returns-clause-gone
returns-clause-gone c = rw (← c.self.view_is) c.purge-gone.ensures.purged.0
