use Rattle.std.proofs.Common.{sym, subst, ◌∙◌}
use Rattle.std.specs.Prelude.{IfOk}
use Rattle.ms_base.specs.State.{Limits}
use Rattle.ms_pool.specs.Lending.{Adds}
use Rattle.ms_shared.specs.SeatView.{SeatState, ServesBy}
use Rattle.ms_shared.proofs.LockCallLemmas.{moves_at, is_call, on_ok, over_lock, served_by_pool, own_times, serves_then}
use Rattle.ms_shared.proofs.LockCallLemmas.{leaves_rest, take_raises, took_owner}
use Rattle.ms_shared.proofs.TellsLemmas.{take_tells}
use Rattle.ms_shared.proofs.MovesLemmas.{kept_moves, take_tallies}
use Rattle.ms_pool.proofs.ledger.TookLemmas.{MayAsk, take_refusal, took_keeps, took_serves}
use Rattle.ms_shared.proofs.locked_pool.LockedPoolChunkSource.take.Goals as goal

pub take-answer-requires-clause-served : goal.take-answer-requires-clause-served
take-answer-requires-clause-served g c =
    served_by_pool _ c.self.inside.seat.me.0.knows _ c.seize-pool.ensures.known
    (subst (λ (s : SeatState). ServesBy s.knows c.args.account.now) (sym c.self.view_is) c.requires.served)

pub let_go-requires-clause-moves : goal.let_go-requires-clause-moves
let_go-requires-clause-moves g c =
    let serves = subst (λ (s : SeatState). ServesBy s.knows c.args.account.now) (sym c.self.view_is) c.requires.served
    in
    moves_at c.self.inside.seat.me.0 c.seize-pool.result c.take-answer.new.self _ c.seize-pool.ensures.seat
    (kept_moves c.self.inside.seat.me.0.knows c.args.account.now.owner c.seize-pool.result c.take-answer.new.self
    (own_times c.self.inside.seat.me.0.knows c.args.account.now serves)
    (took_keeps _ _ _ _ _ c.take-answer.result _ c.take-answer.ensures.took)
    (take_tallies _ _ _ _ _ c.take-answer.result _ c.take-answer.ensures.took))

pub returns : goal.returns
returns g c =
    let v = c.self.inside.seat.me.0 in let pool = c.seize-pool.ensures in let e = c.take-answer.ensures in let result =
    c.take-answer.result in let call =
    is_call _ _ v _ c.seize-pool.result c.take-answer.new.self _ _ c.self.invariant.4 c.self.view_is pool.known c.take-answer.ensures.sound.before c.take-answer.ensures.sound.after pool.seat
    c.let_go.ensures.seat (c.let_go.ensures.own ∙ pool.own) in
    let asks : MayAsk c.args.wanted c.args.most c.args.words = record {
      may = c.requires.asks;
      real = e.level;
    } in record {
      served = serves_then _ _ _ _ call c.args.account.now c.take-answer.new.account c.requires.served
          (took_owner _ _ _ _ _ _ result e.added e.unchanged)
          (took_serves _ _ _ _ _ result _ _ call.sound (served_by_pool _ _ _ call.known c.requires.served)
          c.take-answer.ensures.sound.held asks e.took e.added e.unchanged);
      rest = leaves_rest _ _ _ _ call c.args.account.now.owner (took_keeps _ _ _ _ _ result _ e.took);
      added = subst
          (λ (l : Limits). IfOk result
          (λ span. Adds l.policy c.args.wanted c.args.most c.args.words c.args.account.now span
          c.take-answer.new.account)) call.known.limits e.added;
      unchanged = e.unchanged;
      refused = take_refusal _ _ _ _ _ result _ e.took;
      holds = on_ok result _ e.sound.holds;
      took = record {
        event = over_lock _ _ _ _ _ call e.took;
        tallies = take_raises _ _ _ _ call _ _ _ _ result e.took;
        tells = take_tells _ _ c.args.account.now _ _ _ result _ call.known.limits call.sound e.took;
      };
    }
