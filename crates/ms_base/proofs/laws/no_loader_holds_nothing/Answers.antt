use Rattle.ms_base.proofs.granules.FrontSumLemmas.{nothing_is_left}
use Rattle.ms_base.proofs.laws.no_loader_holds_nothing.Goals as goal

pub returns : goal.returns
returns c = λ m good none. nothing_is_left m good none
