use Rattle.ms_base.proofs.granules.GranuleGrowingLemmas.{growing_keeps_the_limit}
use Rattle.ms_base.proofs.laws.growing_keeps_the_limit.Goals as goal

pub returns : goal.returns
returns c =
    λ pool was chunk total may_enlarge sound there is. growing_keeps_the_limit pool was chunk total may_enlarge sound
    there is
