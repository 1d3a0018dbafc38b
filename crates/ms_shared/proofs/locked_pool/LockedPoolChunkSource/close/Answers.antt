use Rattle.std.proofs.Common.{◌<◌, sym, subst, refl, ◌∙◌, arith}
use Rattle.ms_shared.specs.SeatView.{SeatState, ServesBy, opened_by}
use Rattle.ms_shared.proofs.LockCallLemmas.{moves_at, is_call, over_lock, served_by_pool, own_times, serves_then}
use Rattle.ms_shared.proofs.LockCallLemmas.{limits_stay, close_counts, close_elsewhere}
use Rattle.ms_shared.proofs.MovesLemmas.{close_moves}
use Rattle.ms_pool.proofs.ledger.ClosedLemmas.{closed_well}
use Rattle.ms_shared.proofs.locked_pool.LockedPoolChunkSource.close.Goals as goal

pub close-requires-clause-served : goal.close-requires-clause-served
close-requires-clause-served g c =
    served_by_pool _ c.self.inside.seat.me.0.knows _ c.seize-pool.ensures.known
    (subst (λ (s : SeatState). ServesBy s.knows c.args.account) (sym c.self.view_is) c.requires.served)

pub let_go-requires-clause-moves : goal.let_go-requires-clause-moves
let_go-requires-clause-moves g c =
    let v = c.self.inside.seat.me.0 in let pool = c.seize-pool.ensures in
    let serves = subst (λ (s : SeatState). ServesBy s.knows c.args.account) (sym c.self.view_is) c.requires.served in
    let some : 0 < opened_by v.knows c.args.account.space =
    subst (λ (s : SeatState). 0 < opened_by s.knows c.args.account.space) (sym c.self.view_is) c.requires.counted in
    let most = pool.known.opened c.args.account.space in
    let well =
    closed_well _ c.args.account c.close.new.self c.close.ensures.before (served_by_pool _ v.knows _ pool.known serves)
    (omega arith) c.close.ensures.closed in
    moves_at v c.seize-pool.result c.close.new.self _ pool.seat
    (close_moves v.knows _ c.args.account _ (own_times v.knows c.args.account serves) some well c.close.ensures.closed)

pub returns : goal.returns
returns g c =
    let v = c.self.inside.seat.me.0 in let pool = c.seize-pool.ensures in
    let call =
    is_call _ _ v _ c.seize-pool.result c.close.new.self _ _ c.self.invariant.4 c.self.view_is pool.known c.close.ensures.before c.close.ensures.after pool.seat
    c.let_go.ensures.seat (c.let_go.ensures.own ∙ pool.own) in
    let some = c.requires.counted in let most = call.known.opened c.args.account.space in
    let well =
    closed_well _ c.args.account c.close.new.self call.sound (served_by_pool _ _ _ call.known c.requires.served)
    (omega arith) c.close.ensures.closed in record {
      none = serves_then _ _ _ _ call c.args.account _ c.requires.served refl well.none;
      others = λ other differs its. serves_then _ _ _ _ call other other its refl
          (well.others other differs (served_by_pool _ _ other call.known its));
      limits = limits_stay _ _ _ _ call;
      counted = close_counts _ _ _ _ call c.args.account some well;
      elsewhere = λ space differs. close_elsewhere _ _ _ _ call c.args.account well space differs;
      closed = over_lock _ _ _ _ _ call c.close.ensures.closed;
    }
