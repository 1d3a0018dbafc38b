use Rattle.ms_pool.proofs.searches.IndexLemmas.{whole_gathered}
use Rattle.ms_pool.proofs.index.Index.whole.Goals as goal

pub invariant_of-result : goal.invariant_of-result
invariant_of-result c = whole_gathered
