use Rattle.ms_base.proofs.granules.FrontSumLemmas.{nothing_is_left}
use Rattle.ms_base.proofs.events.SerialLemmas.{spreads_are_serial}
use Rattle.ms_loaders.proofs.steps.AddableLemmas.{taking_is_addable}
use Rattle.ms_loaders.proofs.laws.events.Goals as goal

pub returns-clause-serial : goal.returns-clause-serial
returns-clause-serial c =
    λ old new moments good follow spread. spreads_are_serial taking_is_addable old new moments good follow spread

pub returns-clause-given_back : goal.returns-clause-given_back
returns-clause-given_back c = λ m good none. nothing_is_left m good none
