use Rattle.std.proofs.lemmas.Map.Keys.{sorted_from_strictly_increasing}
use Rattle.ms_commit.proofs.SameLemmas.{same_sets}
use Rattle.ms_commit.proofs.laws.sets_are_their_members.Goals as goal

pub returns : goal.returns
returns c one other rise rising same =
    same_sets one other (sorted_from_strictly_increasing one rise) (sorted_from_strictly_increasing other rising) same
