use Rattle.ms_base.proofs.granules.FrontSumLemmas.{sums_are_bounded}
use Rattle.ms_base.proofs.laws.sums_are_bounded.Goals as goal

pub returns : goal.returns
returns c = λ space m good. sums_are_bounded space m good
