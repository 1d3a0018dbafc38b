use Rattle.std.proofs.Common.{◌∙◌, ap}
use Rattle.ms_shared.proofs.LockCallLemmas.{over_lock, limits_stay, open_both_raises}
use Rattle.ms_shared.specs.SeatView.{HeldState}
use Rattle.ms_shared.proofs.HoldLemmas.{is_event, is_held_call, moves_held, still_held, both_held}
use Rattle.ms_shared.proofs.MovesLemmas.{open_both_moves}
use Rattle.ms_shared.proofs.LockOpenLemmas.{both_serve, open_both_others, open_both_counts, both_new_are}
use Rattle.ms_pool.proofs.ledger.ClosedLemmas.{both_opened_are_empty, both_opened_refusal}
use Rattle.ms_shared.proofs.held_pool.HeldPoolAccountSource.open_both.Goals as goal

pub note-requires-clause-moves : goal.note-requires-clause-moves
note-requires-clause-moves c =
    moves_held c.self.inside.seat.me.0 c.self.inside.pool c.open_both-answer.new.self c.self.invariant.3
    (open_both_moves c.self.inside.seat.me.0.knows _ c.open_both-answer.result _ c.open_both-answer.ensures.opened)

pub invariant_of-self : goal.invariant_of-self
invariant_of-self c =
    still_held _ _ _ _ c.open_both-answer.new.self _ _ (c.note.ensures.own ∙ c.self.invariant.0) c.self.invariant.3 c.self.invariant.1 c.self.invariant.2 c.self.invariant.4
    c.note.ensures.seat c.note.ensures.known c.self.invariant.5

pub returns : goal.returns
returns c =
    let opened = c.open_both-answer.ensures.opened in let result =
    c.open_both-answer.result in
    let call =
    is_held_call _ _ c.self.inside.seat.me.0 _ c.self.inside.pool c.open_both-answer.new.self _ _ c.self.invariant.4 (ap (λ (h : HeldState). h.seat) c.self.view_is) c.self.invariant.5 c.open_both-answer.ensures.before c.open_both-answer.ensures.after c.self.invariant.3 c.note.ensures.seat c.note.ensures.own in
    record {
      served = both_held _ result (both_serve _ _ _ _ call result opened);
      empty = (both_opened_are_empty _ result _ opened).0;
      class_empty = (both_opened_are_empty _ result _ opened).1;
      others = open_both_others _ _ _ _ call result opened;
      counted = open_both_counts _ _ _ _ call result opened;
      limits = limits_stay _ _ _ _ call;
      refused = both_opened_refusal _ result _ opened;
      opened = (
        record {
          event = over_lock _ _ _ _ _ call opened;
          new_are = both_new_are _ result _ opened;
          tallied = open_both_raises _ _ _ _ call result opened;
        },
        is_event _ _ _ c.self.view_is call,
      );
    }
