use Rattle.std.proofs.Common.{arith}
use Rattle.ms_loader_map.proofs.slots.ChangeLemmas.{rises_rest}
use Rattle.ms_loader_map.proofs.loaders.Loaders.len.Goals as goal

pub returns-clause-names : goal.returns-clause-names
returns-clause-names c = rw (← c.self.view_is) (rises_rest c.self.inside.slots c.self.invariant.at_names)

pub returns-clause-small : goal.returns-clause-small
returns-clause-small c = omega (arith, c.self.invariant.small)
