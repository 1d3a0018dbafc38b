use Rattle.std.proofs.Common.{sym, subst}
use Rattle.ms_loaders.specs.Settles.{MaySettle}
use Rattle.ms_loaders.proofs.sums.SettleLemmas.{may_settle_without}
use Rattle.library_tests.proofs.PutBackLemmas.{put_back}
use Rattle.library_tests.proofs.tests.loaders.settled_late.Goals as goal

pub settled_again-requires-clause-early : goal.settled_again-requires-clause-early
settled_again-requires-clause-early c = rw c.remove.ensures.rest
    (may_settle_without c.into_parts-pool.result.0 c.into_parts-pool.result.1 2 c.in-Some.loader
    (sym c.in-Some.ensures.found) c.into_parts-pool.ensures.all c.into_parts-pool.ensures.fits)

pub settled_again-requires-clause-late : goal.settled_again-requires-clause-late
settled_again-requires-clause-late c = rw c.remove.ensures.rest
    (subst (MaySettle c.into_parts-pool.result.0)
    (sym (put_back c.into_parts-pool.result.1 2 c.in-Some.loader c.into_parts-pool.ensures.names
    (sym c.in-Some.ensures.found))) c.into_parts-pool.ensures.fits)
