use Rattle.ms_base.proofs.own.OwnRunLemmas.{replies_own}
use Rattle.ms_base.proofs.laws.replies_are_own.Goals as goal

pub returns : goal.returns
returns c = λ old new said good ran. replies_own old new said good ran
