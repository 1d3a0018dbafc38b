use Rattle.ms_base.proofs.free.OrderLemmas.{alike_answer_the_same}
use Rattle.ms_base.proofs.laws.alike_chunks_answer_the_same.Goals as goal

pub returns : goal.returns
returns c = λ pool other alike. alike_answer_the_same pool other alike
