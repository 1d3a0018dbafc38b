use Rattle.ms_commit.proofs.ModelLemmas.{space_is_committed}
use Rattle.ms_commit.proofs.laws.spaces_are_committed.Goals as goal

pub returns : goal.returns
returns c policy space nodes before held sound size same =
    space_is_committed policy space nodes before held sound size same
