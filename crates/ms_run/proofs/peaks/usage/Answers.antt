use Rattle.ms_run.proofs.PeakLemmas.{usage_is}
use Rattle.ms_run.proofs.peaks.usage.Goals as goal

pub returns : goal.returns
returns c =
    usage_is c.args.system.now c.counts-counts.result c.from.result c.from-2.result c.args.used c.loader_count.result
    c.counts-counts.ensures c.from.ensures c.from-2.ensures c.requires c.loader_count.ensures
