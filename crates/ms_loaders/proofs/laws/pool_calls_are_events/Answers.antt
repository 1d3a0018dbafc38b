use Rattle.ms_loaders.proofs.events.WholeCallLemmas.{purges, totals, closes}
use Rattle.ms_loaders.proofs.events.OpenCallLemmas.{opens}
use Rattle.ms_loaders.proofs.events.TakeCallLemmas.{takes}
use Rattle.ms_loaders.proofs.events.GrowCallLemmas.{grows}
use Rattle.ms_loaders.proofs.laws.pool_calls_are_events.Goals as goal

pub returns-clause-purges : goal.returns-clause-purges
returns-clause-purges c = purges

pub returns-clause-totals : goal.returns-clause-totals
returns-clause-totals c = totals

pub returns-clause-closes : goal.returns-clause-closes
returns-clause-closes c = closes

pub returns-clause-opens : goal.returns-clause-opens
returns-clause-opens c = opens

pub returns-clause-takes : goal.returns-clause-takes
returns-clause-takes c = takes

pub returns-clause-grows : goal.returns-clause-grows
returns-clause-grows c = grows
