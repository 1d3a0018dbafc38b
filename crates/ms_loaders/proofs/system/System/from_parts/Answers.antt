use Rattle.ms_loaders.proofs.sums.FitLemmas.{machine_is_good}
use Rattle.ms_loaders.proofs.system.System.from_parts.Goals as goal

pub returns-clause-good : goal.returns-clause-good
returns-clause-good c = machine_is_good c.args.pool c.args.loaders c.requires
