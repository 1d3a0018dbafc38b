use Rattle.ms_commit.proofs.ModelLemmas.{granules_are_committed}
use Rattle.ms_commit.proofs.laws.members_are_committed.Goals as goal

pub returns : goal.returns
returns c policy before held slots members rise rising same =
    granules_are_committed policy before held slots members rise rising same
