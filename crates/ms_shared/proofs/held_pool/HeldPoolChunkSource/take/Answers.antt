use Rattle.std.proofs.Common.{◌∙◌, sym, subst, ap}
use Rattle.std.specs.Prelude.{IfOk}
use Rattle.ms_base.specs.State.{Limits}
use Rattle.ms_pool.specs.Lending.{Adds}
use Rattle.ms_shared.proofs.LockCallLemmas.{on_ok, over_lock, served_by_pool, own_times, serves_then}
use Rattle.ms_shared.proofs.LockCallLemmas.{leaves_rest, take_raises, took_owner}
use Rattle.ms_shared.proofs.TellsLemmas.{take_tells}
use Rattle.ms_shared.specs.SeatView.{HeldState, ServesBy}
use Rattle.ms_shared.proofs.HoldLemmas.{is_event, is_held_call, moves_held, still_held, rest_held}
use Rattle.ms_shared.proofs.MovesLemmas.{kept_moves, take_tallies}
use Rattle.ms_pool.proofs.ledger.TookLemmas.{MayAsk, take_refusal, took_keeps, took_serves}
use Rattle.ms_shared.proofs.held_pool.HeldPoolChunkSource.take.Goals as goal

pub take-answer-requires-clause-served : goal.take-answer-requires-clause-served
take-answer-requires-clause-served c =
    served_by_pool _ c.self.inside.seat.me.0.knows _ c.self.invariant.5
    (subst (λ (s : HeldState). ServesBy s.seat.knows c.args.account.now) (sym c.self.view_is) c.requires.served)

pub note-requires-clause-moves : goal.note-requires-clause-moves
note-requires-clause-moves c =
    let serves = subst (λ (s : HeldState). ServesBy s.seat.knows c.args.account.now) (sym c.self.view_is) c.requires.served
    in
    moves_held c.self.inside.seat.me.0 c.self.inside.pool c.take-answer.new.self c.self.invariant.3
    (kept_moves c.self.inside.seat.me.0.knows c.args.account.now.owner c.self.inside.pool c.take-answer.new.self
    (own_times c.self.inside.seat.me.0.knows c.args.account.now serves)
    (took_keeps _ _ _ _ _ c.take-answer.result _ c.take-answer.ensures.took)
    (take_tallies _ _ _ _ _ c.take-answer.result _ c.take-answer.ensures.took))

pub invariant_of-self : goal.invariant_of-self
invariant_of-self c =
    still_held _ _ _ _ c.take-answer.new.self _ _ (c.note.ensures.own ∙ c.self.invariant.0) c.self.invariant.3 c.self.invariant.1 c.self.invariant.2 c.self.invariant.4
    c.note.ensures.seat c.note.ensures.known c.self.invariant.5

pub returns : goal.returns
returns c =
    let v = c.self.inside.seat.me.0 in let e = c.take-answer.ensures in let result =
    c.take-answer.result in let call =
    is_held_call _ _ v _ c.self.inside.pool c.take-answer.new.self _ _ c.self.invariant.4 (ap (λ (h : HeldState). h.seat) c.self.view_is) c.self.invariant.5 c.take-answer.ensures.sound.before c.take-answer.ensures.sound.after c.self.invariant.3 c.note.ensures.seat c.note.ensures.own in
    let asks : MayAsk c.args.wanted c.args.most c.args.words = record {
      may = c.requires.asks;
      real = e.level;
    } in record {
      served = serves_then _ _ _ _ call c.args.account.now c.take-answer.new.account c.requires.served
          (took_owner _ _ _ _ _ _ result e.added e.unchanged)
          (took_serves _ _ _ _ _ result _ _ call.sound (served_by_pool _ _ _ call.known c.requires.served)
          c.take-answer.ensures.sound.held asks e.took e.added e.unchanged);
      rest = rest_held _ _ _ (leaves_rest _ _ _ _ call c.args.account.now.owner (took_keeps _ _ _ _ _ result _ e.took));
      added = subst
          (λ (l : Limits). IfOk result
          (λ span. Adds l.policy c.args.wanted c.args.most c.args.words c.args.account.now span
          c.take-answer.new.account)) call.known.limits e.added;
      unchanged = e.unchanged;
      refused = take_refusal _ _ _ _ _ result _ e.took;
      holds = on_ok result _ e.sound.holds;
      took = (
        record {
          event = over_lock _ _ _ _ _ call e.took;
          tallies = take_raises _ _ _ _ call _ _ _ _ result e.took;
          tells = take_tells _ _ c.args.account.now _ _ _ result _ call.known.limits call.sound e.took;
        },
        is_event _ _ _ c.self.view_is call,
      );
    }
