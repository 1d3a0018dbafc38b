use Rattle.std.proofs.Common.{refl}
use Rattle.ms_trace.proofs.trace.Lines.from_vec.Goals as goal

pub returns : goal.returns
returns c = refl
