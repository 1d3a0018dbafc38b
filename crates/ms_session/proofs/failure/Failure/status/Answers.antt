use Rattle.std.proofs.Common.{rules}
use Rattle.ms_session.proofs.failure.Failure.status.Goals as goal

pub returns-in-Fault : goal.returns-in-Fault
returns-in-Fault c = search rules
