use Rattle.std.proofs.Common.{◌∙◌, refl, ap}
use Rattle.ms_pool.specs.Ledger.{Ledger, opened_in}
use Rattle.ms_pool.proofs.ledger.ClosedLemmas.{purged_leaves_served}
use Rattle.ms_shared.proofs.LockCallLemmas.{over_lock, served_by_pool, serves_then, counts_stay}
use Rattle.ms_shared.proofs.LockCallLemmas.{limits_stay, tallies_kept}
use Rattle.ms_shared.specs.SeatView.{HeldState}
use Rattle.ms_shared.proofs.HoldLemmas.{is_event, is_held_call, moves_held, still_held}
use Rattle.ms_shared.proofs.MovesLemmas.{purge_moves}
use Rattle.ms_shared.proofs.held_pool.HeldPoolAccountSource.purge.Goals as goal

pub note-requires-clause-moves : goal.note-requires-clause-moves
note-requires-clause-moves c =
    moves_held c.self.inside.seat.me.0 c.self.inside.pool c.purge-gone.new.self c.self.invariant.3
    (purge_moves c.self.inside.seat.me.0.knows c.self.inside.pool c.purge-gone.result c.purge-gone.new.self
    c.purge-gone.ensures.purged)

pub invariant_of-self : goal.invariant_of-self
invariant_of-self c =
    still_held _ _ _ _ c.purge-gone.new.self _ _ (c.note.ensures.own ∙ c.self.invariant.0) c.self.invariant.3 c.self.invariant.1 c.self.invariant.2 c.self.invariant.4
    c.note.ensures.seat c.note.ensures.known c.self.invariant.5

pub returns : goal.returns
returns c =
    let purged = c.purge-gone.ensures.purged in
    let call =
    is_held_call _ _ c.self.inside.seat.me.0 _ c.self.inside.pool c.purge-gone.new.self _ _ c.self.invariant.4 (ap (λ (h : HeldState). h.seat) c.self.view_is) c.self.invariant.5 c.purge-gone.ensures.before c.purge-gone.ensures.after c.self.invariant.3 c.note.ensures.seat c.note.ensures.own in
    record {
      served = λ account its. serves_then _ _ _ _ call account account its refl
          (purged_leaves_served _ _ c.purge-gone.new.self account purged (served_by_pool _ _ account call.known its));
      counted = counts_stay _ _ _ _ call (ap (λ (l : Ledger). opened_in l) purged.1);
      limits = limits_stay _ _ _ _ call;
      purged = (
        record {
          event = over_lock _ _ _ _ _ call purged;
          tallies = tallies_kept _ _ _ _ call (ap (λ (l : Ledger). l.tallies) purged.1);
        },
        is_event _ _ _ c.self.view_is call,
      );
    }
