use Rattle.ms_base.proofs.granules.SlotGranuleLemmas.{lending_commits_the_missing}
use Rattle.ms_base.proofs.laws.lending_commits_the_missing.Goals as goal

pub returns : goal.returns
returns c = λ pool chunk sound placed some within. lending_commits_the_missing pool chunk sound placed some within
