use Rattle.ms_loader_map.proofs.slots.ChangeLemmas.{rises_rest}
use Rattle.ms_loader_map.proofs.loaders.Loaders.values.Goals as goal

pub returns-clause-names : goal.returns-clause-names
returns-clause-names c = rw (← c.self.view_is) (rises_rest c.self.inside.slots c.self.invariant.at_names)
