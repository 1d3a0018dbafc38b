use Rattle.ms_base.proofs.own.OwnRunLemmas.{workers_replies_own}
use Rattle.ms_base.proofs.laws.replies_of_workers_are_own.Goals as goal

pub returns : goal.returns
returns c = λ worker old new order said good keeps ran. workers_replies_own worker old new order said good keeps ran
