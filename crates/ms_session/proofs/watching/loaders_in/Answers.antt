use Rattle.ms_session.proofs.WatchLemmas.{loaders_listed}
use Rattle.ms_session.proofs.watching.loaders_in.Goals as goal

pub returns : goal.returns
returns c = loaders_listed c.in_ok-totals.totals _ c.args.system.now c.loaders_of.result c.as_slice.ensures.value c.in_ok-totals.ensures c.loaders_of.ensures
