use Rattle.std.proofs.Common.{rules}
use Rattle.ms_base.proofs.kind.growth.Goals as goal

pub returns : goal.returns
returns c = search rules
