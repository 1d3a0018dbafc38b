use Rattle.ms_base.proofs.granules.GranuleGrowingLemmas.{growing_commits_the_missing}
use Rattle.ms_base.proofs.laws.growing_commits_the_missing.Goals as goal

pub returns : goal.returns
returns c =
    λ pool index was chunk sound found grows placed within. growing_commits_the_missing pool index was chunk sound found
    grows placed within
