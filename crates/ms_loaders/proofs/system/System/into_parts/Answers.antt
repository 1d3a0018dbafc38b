use Rattle.std.proofs.Common.{arith}
use Rattle.ms_loaders.proofs.system.System.into_parts.Goals as goal

-- Pool and loaders are those of the system, which belong together.
pub returns-clause-machine : goal.returns-clause-machine
returns-clause-machine c = c.self.view_is

pub returns-clause-together : goal.returns-clause-together
returns-clause-together c = c.self.invariant.together

pub returns-clause-fits : goal.returns-clause-fits
returns-clause-fits c = let served = c.self.invariant.together.served in record {
  served = served.served;
  distinct = served.distinct;
  opened = omega (arith, served.opened);
  class_opened = omega (arith, served.class_opened);
  no_other = λ _. served.no_other;
}

pub returns-clause-all : goal.returns-clause-all
returns-clause-all c =
    let served = c.self.invariant.together.served in omega (arith, served.opened, served.class_opened)

pub returns-clause-names : goal.returns-clause-names
returns-clause-names c = c.self.invariant.together.names
