use Rattle.std.proofs.Common.{refl}
use Rattle.ms_run.proofs.dealing.make_share.Goals as goal

pub returns-clause-seat : goal.returns-clause-seat
returns-clause-seat c = refl
