use Rattle.std.proofs.Common.{sym}
use Rattle.ms_loaders.proofs.sums.SettleLemmas.{may_settle_without}
use Rattle.calls.proofs.systems.settling.tell_held_back.Goals as goal

pub settle-left-requires : goal.settle-left-requires
settle-left-requires c = rw c.remove.ensures.rest
    (may_settle_without c.into_parts-pool.result.0 c.into_parts-pool.result.1 2 c.in-Some.loader
    (sym c.in-Some.ensures.found) c.into_parts-pool.ensures.all c.into_parts-pool.ensures.fits)
