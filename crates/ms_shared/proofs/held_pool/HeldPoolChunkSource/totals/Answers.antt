use Rattle.std.proofs.Common.{◌∙◌, refl, ap}
use Rattle.ms_shared.proofs.LockCallLemmas.{over_lock, served_by_pool, serves_then, counts_stay}
use Rattle.ms_shared.proofs.LockCallLemmas.{limits_stay}
use Rattle.ms_shared.specs.SeatView.{HeldState}
use Rattle.ms_shared.proofs.HoldLemmas.{is_event, is_held_call, moves_held, still_held}
use Rattle.ms_shared.proofs.MovesLemmas.{same_moves}
use Rattle.ms_shared.proofs.OwnLemmas.{counts_own}
use Rattle.ms_shared.proofs.held_pool.HeldPoolChunkSource.totals.Goals as goal

pub note-requires-clause-moves : goal.note-requires-clause-moves
note-requires-clause-moves c =
    moves_held c.self.inside.seat.me.0 c.self.inside.pool c.self.inside.pool c.self.invariant.3
    (same_moves c.self.inside.seat.me.0.knows c.self.inside.pool)

pub invariant_of-self : goal.invariant_of-self
invariant_of-self c =
    still_held _ _ _ _ c.self.inside.pool _ _ (c.note.ensures.own ∙ c.self.invariant.0) c.self.invariant.3 c.self.invariant.1 c.self.invariant.2 c.self.invariant.4
    c.note.ensures.seat c.note.ensures.known c.self.invariant.5

pub returns : goal.returns
returns c =
    let call =
    is_held_call _ _ c.self.inside.seat.me.0 _ c.self.inside.pool c.self.inside.pool _ _ c.self.invariant.4 (ap (λ (h : HeldState). h.seat) c.self.view_is) c.self.invariant.5 c.totals-totals.ensures.sound c.totals-totals.ensures.sound c.self.invariant.3 c.note.ensures.seat c.note.ensures.own in
    record {
      others = λ other its. serves_then _ _ _ _ call other other its refl (served_by_pool _ _ other call.known its);
      counted = counts_stay _ _ _ _ call refl;
      limits = limits_stay _ _ _ _ call;
      totalled = (
        record {
          event = over_lock _ _ _ _ _ call (c.totals-totals.ensures.sums, refl);
          own = counts_own c.self.inside.pool _ _ _ call.known c.requires c.totals-totals.ensures.held c.totals-totals.ensures.sums;
        },
        is_event _ _ _ c.self.view_is call,
      );
    }
