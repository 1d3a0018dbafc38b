use Rattle.ms_base.proofs.free.AlikeLemmas.{alike_leave_the_same}
use Rattle.ms_base.proofs.laws.alike_chunks_leave_the_same.Goals as goal

pub returns : goal.returns
returns c = λ policy before slots held other alike. alike_leave_the_same policy before slots held other alike
