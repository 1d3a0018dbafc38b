use Rattle.ms_commit.proofs.SpaceLemmas.{are_of_two_spaces}
use Rattle.ms_commit.proofs.laws.granules_are_of_two_spaces.Goals as goal

pub returns : goal.returns
returns c nodes sound = are_of_two_spaces nodes sound
