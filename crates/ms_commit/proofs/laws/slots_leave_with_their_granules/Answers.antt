use Rattle.ms_commit.proofs.SpaceLemmas.{leaves_with_its_granules}
use Rattle.ms_commit.proofs.laws.slots_leave_with_their_granules.Goals as goal

pub returns : goal.returns
returns c nodes slot low = leaves_with_its_granules nodes slot low
