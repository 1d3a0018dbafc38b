use Rattle.ms_base.proofs.granules.GranuleKeepingLemmas.{uncommits_nothing}
use Rattle.ms_base.proofs.laws.none_uncommits_nothing.Goals as goal

pub returns : goal.returns
returns c = λ pool sound keeping. uncommits_nothing pool sound keeping
