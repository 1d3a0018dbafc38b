use Rattle.std.proofs.Common.{rules}
use Rattle.ms_run.proofs.peaks.greater.Goals as goal

pub returns-clause-used : goal.returns-clause-used
returns-clause-used c = search rules
