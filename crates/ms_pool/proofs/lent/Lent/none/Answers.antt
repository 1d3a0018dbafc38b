use Rattle.ms_pool.proofs.counts.LentCountLemmas.{none_in_both}
use Rattle.ms_pool.proofs.lent.Lent.none.Goals as goal

pub returns : goal.returns
returns c = none_in_both
