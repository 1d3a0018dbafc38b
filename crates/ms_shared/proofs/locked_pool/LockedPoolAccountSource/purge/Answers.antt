use Rattle.std.proofs.Common.{refl, ap, ◌∙◌}
use Rattle.ms_pool.specs.Ledger.{Ledger, opened_in}
use Rattle.ms_pool.proofs.ledger.ClosedLemmas.{purged_leaves_served}
use Rattle.ms_shared.proofs.LockCallLemmas.{moves_at, is_call, over_lock, served_by_pool, serves_then, counts_stay}
use Rattle.ms_shared.proofs.LockCallLemmas.{limits_stay, tallies_kept}
use Rattle.ms_shared.proofs.MovesLemmas.{purge_moves}
use Rattle.ms_shared.proofs.locked_pool.LockedPoolAccountSource.purge.Goals as goal

pub let_go-requires-clause-moves : goal.let_go-requires-clause-moves
let_go-requires-clause-moves g c =
    moves_at c.self.inside.seat.me.0 c.seize-pool.result c.purge-gone.new.self _ c.seize-pool.ensures.seat
    (purge_moves c.self.inside.seat.me.0.knows c.seize-pool.result c.purge-gone.result c.purge-gone.new.self
    c.purge-gone.ensures.purged)

pub returns : goal.returns
returns g c =
    let pool = c.seize-pool.ensures in let purged = c.purge-gone.ensures.purged in
    let call =
    is_call _ _ c.self.inside.seat.me.0 _ c.seize-pool.result c.purge-gone.new.self _ _ c.self.invariant.4 c.self.view_is pool.known
    c.purge-gone.ensures.before c.purge-gone.ensures.after pool.seat c.let_go.ensures.seat (c.let_go.ensures.own ∙ pool.own) in
    record {
      served = λ account its. serves_then _ _ _ _ call account account its refl
          (purged_leaves_served _ _ c.purge-gone.new.self account purged (served_by_pool _ _ account call.known its));
      counted = counts_stay _ _ _ _ call (ap (λ (l : Ledger). opened_in l) purged.1);
      limits = limits_stay _ _ _ _ call;
      purged = record {
        event = over_lock _ _ _ _ _ call purged;
        tallies = tallies_kept _ _ _ _ call (ap (λ (l : Ledger). l.tallies) purged.1);
      };
    }
