use Rattle.std.proofs.Common.{refl, ◌∙◌}
use Rattle.ms_shared.proofs.LockCallLemmas.{moves_at, is_call, over_lock, served_by_pool, serves_then, counts_stay}
use Rattle.ms_shared.proofs.LockCallLemmas.{limits_stay}
use Rattle.ms_shared.proofs.MovesLemmas.{same_moves}
use Rattle.ms_shared.proofs.OwnLemmas.{counts_own}
use Rattle.ms_shared.proofs.locked_pool.LockedPoolChunkSource.totals.Goals as goal

pub let_go-requires-clause-moves : goal.let_go-requires-clause-moves
let_go-requires-clause-moves g c =
    moves_at c.self.inside.seat.me.0 c.seize-pool.result c.seize-pool.result _ c.seize-pool.ensures.seat
    (same_moves c.self.inside.seat.me.0.knows c.seize-pool.result)

pub returns : goal.returns
returns g c =
    let pool = c.seize-pool.ensures in
    let call =
    is_call _ _ c.self.inside.seat.me.0 _ c.seize-pool.result c.seize-pool.result _ _ c.self.invariant.4 c.self.view_is pool.known
    c.totals-totals.ensures.sound c.totals-totals.ensures.sound pool.seat c.let_go.ensures.seat (c.let_go.ensures.own ∙ pool.own) in
    record {
      others = λ other its. serves_then _ _ _ _ call other other its refl (served_by_pool _ _ other call.known its);
      counted = counts_stay _ _ _ _ call refl;
      limits = limits_stay _ _ _ _ call;
      totalled =
          record {
            event = over_lock _ _ _ _ _ call (c.totals-totals.ensures.sums, refl);
            own = counts_own c.seize-pool.result _ _ _ call.known c.requires c.totals-totals.ensures.held c.totals-totals.ensures.sums;
          };
    }
