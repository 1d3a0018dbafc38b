use Rattle.std.proofs.Common.{◌∙◌, sym, subst, ap}
use Rattle.std.specs.Prelude.{IfOk}
use Rattle.ms_base.specs.State.{Limits}
use Rattle.ms_pool.specs.Lending.{Grows}
use Rattle.ms_shared.proofs.LockCallLemmas.{on_ok, over_lock, served_by_pool, own_times, serves_then}
use Rattle.ms_shared.proofs.LockCallLemmas.{leaves_rest, grow_raises, grew_owner}
use Rattle.ms_shared.specs.SeatView.{HeldState, ServesBy}
use Rattle.ms_shared.proofs.HoldLemmas.{is_event, is_held_call, moves_held, still_held, rest_held}
use Rattle.ms_shared.proofs.MovesLemmas.{kept_moves, grew_tallies}
use Rattle.ms_shared.proofs.TellsLemmas.{grow_tells}
use Rattle.ms_pool.proofs.ledger.GrewLemmas.{grew_keeps, grew_serves, grow_refusal}
use Rattle.ms_shared.proofs.held_pool.HeldPoolChunkSource.grow.Goals as goal

pub grow-answer-requires-clause-served : goal.grow-answer-requires-clause-served
grow-answer-requires-clause-served c =
    served_by_pool _ c.self.inside.seat.me.0.knows _ c.self.invariant.5
    (subst (λ (s : HeldState). ServesBy s.seat.knows c.args.account.now) (sym c.self.view_is) c.requires.served)

pub note-requires-clause-moves : goal.note-requires-clause-moves
note-requires-clause-moves c =
    let v = c.self.inside.seat.me.0 in let grew = c.grow-answer.ensures.grew in
    let serves = subst (λ (s : HeldState). ServesBy s.seat.knows c.args.account.now) (sym c.self.view_is) c.requires.served
    in
    moves_held v c.self.inside.pool c.grow-answer.new.self c.self.invariant.3
    (kept_moves v.knows c.args.account.now.owner c.self.inside.pool c.grow-answer.new.self
    (own_times v.knows c.args.account.now serves)
    (grew_keeps _ _ _ _ _ c.grow-answer.result _ c.grow-answer.ensures.sound.before (served_by_pool _ v.knows _ c.self.invariant.5 serves)
    c.grow-answer.ensures.sound.held grew)
    (grew_tallies _ _ _ _ _ c.grow-answer.result _ grew))

pub invariant_of-self : goal.invariant_of-self
invariant_of-self c =
    still_held _ _ _ _ c.grow-answer.new.self _ _ (c.note.ensures.own ∙ c.self.invariant.0) c.self.invariant.3 c.self.invariant.1 c.self.invariant.2 c.self.invariant.4
    c.note.ensures.seat c.note.ensures.known c.self.invariant.5

pub returns : goal.returns
returns c =
    let v = c.self.inside.seat.me.0 in let e = c.grow-answer.ensures in let result =
    c.grow-answer.result in
    let call =
    is_held_call _ _ v _ c.self.inside.pool c.grow-answer.new.self _ _ c.self.invariant.4 (ap (λ (h : HeldState). h.seat) c.self.view_is) c.self.invariant.5 c.grow-answer.ensures.sound.before c.grow-answer.ensures.sound.after c.self.invariant.3 c.note.ensures.seat c.note.ensures.own in
    let its = served_by_pool _ _ _ call.known c.requires.served in record {
      served = serves_then _ _ _ _ call c.args.account.now c.grow-answer.new.account c.requires.served
          (grew_owner _ _ _ _ _ _ result e.grown e.unchanged)
          (grew_serves _ _ _ _ _ result _ _ call.sound its c.grow-answer.ensures.sound.held e.grew e.grown e.unchanged);
      rest = rest_held _ _ _ (leaves_rest _ _ _ _ call c.args.account.now.owner
          (grew_keeps _ _ _ _ _ result _ call.sound its c.grow-answer.ensures.sound.held e.grew));
      grown = subst
          (λ (l : Limits). IfOk result
          (λ span. Grows l.policy c.args.start c.args.total c.args.may_enlarge c.args.account.now span
          c.grow-answer.new.account)) call.known.limits e.grown;
      unchanged = e.unchanged;
      refused = grow_refusal _ _ _ _ _ result _ e.grew;
      holds = on_ok result _ e.sound.holds;
      grew = (
        record {
          event = over_lock _ _ _ _ _ call e.grew;
          tallies = grow_raises _ _ _ _ call _ _ _ _ result e.grew;
          tells = grow_tells _ _ c.args.account.now _ _ _ result _ call.known.limits e.grew;
        },
        is_event _ _ _ c.self.view_is call,
      );
    }
