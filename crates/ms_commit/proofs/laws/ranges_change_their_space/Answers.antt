use Rattle.ms_commit.proofs.SpaceLemmas.{change_their_space}
use Rattle.ms_commit.proofs.laws.ranges_change_their_space.Goals as goal

pub returns : goal.returns
returns c nodes space first count sound inside = change_their_space nodes space first count sound inside
