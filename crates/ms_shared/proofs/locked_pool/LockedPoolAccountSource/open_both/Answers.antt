use Rattle.std.proofs.Common.{◌∙◌}
use Rattle.ms_shared.proofs.LockCallLemmas.{moves_at, is_call, over_lock, limits_stay, open_both_raises}
use Rattle.ms_shared.proofs.MovesLemmas.{open_both_moves}
use Rattle.ms_shared.proofs.LockOpenLemmas.{both_serve, open_both_others, open_both_counts, both_new_are}
use Rattle.ms_pool.proofs.ledger.ClosedLemmas.{both_opened_are_empty, both_opened_refusal}
use Rattle.ms_shared.proofs.locked_pool.LockedPoolAccountSource.open_both.Goals as goal

pub let_go-requires-clause-moves : goal.let_go-requires-clause-moves
let_go-requires-clause-moves g c =
    moves_at c.self.inside.seat.me.0 c.seize-pool.result c.open_both-answer.new.self _ c.seize-pool.ensures.seat
    (open_both_moves c.self.inside.seat.me.0.knows _ c.open_both-answer.result _ c.open_both-answer.ensures.opened)

pub returns : goal.returns
returns g c =
    let pool = c.seize-pool.ensures in let opened = c.open_both-answer.ensures.opened in let result =
    c.open_both-answer.result in
    let call =
    is_call _ _ c.self.inside.seat.me.0 _ c.seize-pool.result c.open_both-answer.new.self _ _ c.self.invariant.4 c.self.view_is
    pool.known c.open_both-answer.ensures.before c.open_both-answer.ensures.after pool.seat c.let_go.ensures.seat (c.let_go.ensures.own ∙ pool.own) in
    record {
      served = both_serve _ _ _ _ call result opened;
      empty = (both_opened_are_empty _ result _ opened).0;
      class_empty = (both_opened_are_empty _ result _ opened).1;
      others = open_both_others _ _ _ _ call result opened;
      counted = open_both_counts _ _ _ _ call result opened;
      limits = limits_stay _ _ _ _ call;
      refused = both_opened_refusal _ result _ opened;
      opened = record {
        event = over_lock _ _ _ _ _ call opened;
        new_are = both_new_are _ result _ opened;
        tallied = open_both_raises _ _ _ _ call result opened;
      };
    }
