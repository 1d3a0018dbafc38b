use Rattle.std.proofs.Common.{refl}
use Rattle.ms_base.proofs.level.Level.new.Goals as goal

pub returns : goal.returns
returns c = refl
