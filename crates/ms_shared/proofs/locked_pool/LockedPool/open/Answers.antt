use Rattle.std.proofs.Common.{◌∙◌}
use Rattle.ms_shared.proofs.LockCallLemmas.{moves_at, is_call, over_lock, limits_stay, open_raises}
use Rattle.ms_shared.proofs.MovesLemmas.{open_moves}
use Rattle.ms_shared.proofs.LockOpenLemmas.{open_serves, open_others, open_counts, open_elsewhere, new_is}
use Rattle.ms_shared.proofs.locked_pool.LockedPool.open.Goals as goal

pub let_go-requires-clause-moves : goal.let_go-requires-clause-moves
let_go-requires-clause-moves g c =
    moves_at c.self.inside.seat.me.0 c.seize-pool.result c.open-answer.new.self _ c.seize-pool.ensures.seat
    (open_moves c.self.inside.seat.me.0.knows _ _ c.open-answer.result _ c.open-answer.ensures.opened)

pub returns : goal.returns
returns g c =
    let pool = c.seize-pool.ensures in let opened = c.open-answer.ensures.opened in let result = c.open-answer.result in
    let call =
    is_call _ _ c.self.inside.seat.me.0 _ c.seize-pool.result c.open-answer.new.self _ _ c.self.invariant.4 c.self.view_is pool.known
    c.open-answer.ensures.before c.open-answer.ensures.after pool.seat c.let_go.ensures.seat (c.let_go.ensures.own ∙ pool.own) in
    record {
      event = over_lock _ _ _ _ _ call opened;
      served = open_serves _ _ _ _ call _ result opened;
      new = new_is _ _ result _ opened;
      others = open_others _ _ _ _ call _ result opened;
      counted = open_counts _ _ _ _ call _ result opened;
      elsewhere = open_elsewhere _ _ _ _ call _ result opened;
      limits = limits_stay _ _ _ _ call;
      tallied = open_raises _ _ _ _ call _ result opened;
    }
