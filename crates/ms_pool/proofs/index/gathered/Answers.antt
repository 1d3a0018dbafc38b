use Rattle.ms_pool.proofs.searches.IndexLemmas.{one_more}
use Rattle.ms_pool.proofs.index.gathered.Goals as goal

pub loop-entry-preserved : goal.loop-entry-preserved
loop-entry-preserved c = one_more c.loop-entry.levels c.loop-entry.entry c.args.from c.args.entries.now c.loop-entry.invariant
