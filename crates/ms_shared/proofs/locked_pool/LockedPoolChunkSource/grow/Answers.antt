use Rattle.std.proofs.Common.{sym, subst, ◌∙◌}
use Rattle.std.specs.Prelude.{IfOk}
use Rattle.ms_base.specs.State.{Limits}
use Rattle.ms_pool.specs.Lending.{Grows}
use Rattle.ms_shared.specs.SeatView.{SeatState, ServesBy}
use Rattle.ms_shared.proofs.LockCallLemmas.{moves_at, is_call, on_ok, over_lock, served_by_pool, own_times, serves_then}
use Rattle.ms_shared.proofs.LockCallLemmas.{leaves_rest, grow_raises, grew_owner}
use Rattle.ms_shared.proofs.MovesLemmas.{kept_moves, grew_tallies}
use Rattle.ms_shared.proofs.TellsLemmas.{grow_tells}
use Rattle.ms_pool.proofs.ledger.GrewLemmas.{grew_keeps, grew_serves, grow_refusal}
use Rattle.ms_shared.proofs.locked_pool.LockedPoolChunkSource.grow.Goals as goal

pub grow-answer-requires-clause-served : goal.grow-answer-requires-clause-served
grow-answer-requires-clause-served g c =
    served_by_pool _ c.self.inside.seat.me.0.knows _ c.seize-pool.ensures.known
    (subst (λ (s : SeatState). ServesBy s.knows c.args.account.now) (sym c.self.view_is) c.requires.served)

pub let_go-requires-clause-moves : goal.let_go-requires-clause-moves
let_go-requires-clause-moves g c =
    let v = c.self.inside.seat.me.0 in let pool = c.seize-pool.ensures in let grew = c.grow-answer.ensures.grew in
    let serves = subst (λ (s : SeatState). ServesBy s.knows c.args.account.now) (sym c.self.view_is) c.requires.served
    in
    moves_at v c.seize-pool.result c.grow-answer.new.self _ pool.seat
    (kept_moves v.knows c.args.account.now.owner c.seize-pool.result c.grow-answer.new.self
    (own_times v.knows c.args.account.now serves)
    (grew_keeps _ _ _ _ _ c.grow-answer.result _ c.grow-answer.ensures.sound.before (served_by_pool _ v.knows _ pool.known serves)
    c.grow-answer.ensures.sound.held grew)
    (grew_tallies _ _ _ _ _ c.grow-answer.result _ grew))

pub returns : goal.returns
returns g c =
    let v = c.self.inside.seat.me.0 in let pool = c.seize-pool.ensures in let e = c.grow-answer.ensures in let result =
    c.grow-answer.result in
    let call =
    is_call _ _ v _ c.seize-pool.result c.grow-answer.new.self _ _ c.self.invariant.4 c.self.view_is pool.known c.grow-answer.ensures.sound.before c.grow-answer.ensures.sound.after pool.seat
    c.let_go.ensures.seat (c.let_go.ensures.own ∙ pool.own) in
    let its = served_by_pool _ _ _ call.known c.requires.served in record {
      served = serves_then _ _ _ _ call c.args.account.now c.grow-answer.new.account c.requires.served
          (grew_owner _ _ _ _ _ _ result e.grown e.unchanged)
          (grew_serves _ _ _ _ _ result _ _ call.sound its c.grow-answer.ensures.sound.held e.grew e.grown e.unchanged);
      rest = leaves_rest _ _ _ _ call c.args.account.now.owner
          (grew_keeps _ _ _ _ _ result _ call.sound its c.grow-answer.ensures.sound.held e.grew);
      grown = subst
          (λ (l : Limits). IfOk result
          (λ span. Grows l.policy c.args.start c.args.total c.args.may_enlarge c.args.account.now span
          c.grow-answer.new.account)) call.known.limits e.grown;
      unchanged = e.unchanged;
      refused = grow_refusal _ _ _ _ _ result _ e.grew;
      holds = on_ok result _ e.sound.holds;
      grew = record {
        event = over_lock _ _ _ _ _ call e.grew;
        tallies = grow_raises _ _ _ _ call _ _ _ _ result e.grew;
        tells = grow_tells _ _ c.args.account.now _ _ _ result _ call.known.limits e.grew;
      };
    }
