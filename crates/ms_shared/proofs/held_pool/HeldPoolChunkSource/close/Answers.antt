use Rattle.std.proofs.Common.{◌∙◌, ◌<◌, sym, subst, refl, arith, ap}
use Rattle.ms_shared.proofs.LockCallLemmas.{over_lock, served_by_pool, own_times, serves_then}
use Rattle.ms_shared.proofs.LockCallLemmas.{limits_stay, close_counts, close_elsewhere}
use Rattle.ms_shared.specs.SeatView.{HeldState, ServesBy, opened_by}
use Rattle.ms_shared.proofs.HoldLemmas.{is_event, is_held_call, moves_held, still_held}
use Rattle.ms_shared.proofs.MovesLemmas.{close_moves}
use Rattle.ms_pool.proofs.ledger.ClosedLemmas.{closed_well}
use Rattle.ms_shared.proofs.held_pool.HeldPoolChunkSource.close.Goals as goal

pub close-requires-clause-served : goal.close-requires-clause-served
close-requires-clause-served c =
    served_by_pool _ c.self.inside.seat.me.0.knows _ c.self.invariant.5
    (subst (λ (s : HeldState). ServesBy s.seat.knows c.args.account) (sym c.self.view_is) c.requires.served)

pub note-requires-clause-moves : goal.note-requires-clause-moves
note-requires-clause-moves c =
    let v = c.self.inside.seat.me.0 in
    let serves = subst (λ (s : HeldState). ServesBy s.seat.knows c.args.account) (sym c.self.view_is) c.requires.served in
    let some : 0 < opened_by v.knows c.args.account.space =
    subst (λ (s : HeldState). 0 < opened_by s.seat.knows c.args.account.space) (sym c.self.view_is) c.requires.counted in
    let most = c.self.invariant.5.opened c.args.account.space in
    let well =
    closed_well _ c.args.account c.close.new.self c.close.ensures.before (served_by_pool _ v.knows _ c.self.invariant.5 serves)
    (omega arith) c.close.ensures.closed in
    moves_held v c.self.inside.pool c.close.new.self c.self.invariant.3
    (close_moves v.knows _ c.args.account _ (own_times v.knows c.args.account serves) some well c.close.ensures.closed)

pub invariant_of-self : goal.invariant_of-self
invariant_of-self c =
    still_held _ _ _ _ c.close.new.self _ _ (c.note.ensures.own ∙ c.self.invariant.0) c.self.invariant.3 c.self.invariant.1 c.self.invariant.2 c.self.invariant.4
    c.note.ensures.seat c.note.ensures.known c.self.invariant.5

pub returns : goal.returns
returns c =
    let v = c.self.inside.seat.me.0 in
    let call =
    is_held_call _ _ v _ c.self.inside.pool c.close.new.self _ _ c.self.invariant.4 (ap (λ (h : HeldState). h.seat) c.self.view_is) c.self.invariant.5 c.close.ensures.before c.close.ensures.after c.self.invariant.3 c.note.ensures.seat c.note.ensures.own in
    let some = c.requires.counted in let most = call.known.opened c.args.account.space in
    let well =
    closed_well _ c.args.account c.close.new.self call.sound (served_by_pool _ _ _ call.known c.requires.served)
    (omega arith) c.close.ensures.closed in record {
      none = serves_then _ _ _ _ call c.args.account _ c.requires.served refl well.none;
      others = λ other differs its. serves_then _ _ _ _ call other other its refl
          (well.others other differs (served_by_pool _ _ other call.known its));
      limits = limits_stay _ _ _ _ call;
      counted = close_counts _ _ _ _ call c.args.account some well;
      elsewhere = λ space differs. close_elsewhere _ _ _ _ call c.args.account well space differs;
      closed = (over_lock _ _ _ _ _ call c.close.ensures.closed, is_event _ _ _ c.self.view_is call);
    }
