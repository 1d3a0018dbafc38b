use Rattle.std.proofs.Common.{arith, rules}
use Rattle.std.proofs.lemmas.Grind.{common_steps}
use Rattle.ms_base.proofs.level.level_for.Goals as goal

pub returns-clause-level : goal.returns-clause-level
returns-clause-level c = grind (arith, common_steps)

pub returns-clause-fits : goal.returns-clause-fits
returns-clause-fits c = search rules
