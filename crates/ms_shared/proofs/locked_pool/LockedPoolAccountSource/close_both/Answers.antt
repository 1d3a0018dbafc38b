use Rattle.std.proofs.Common.{◌<◌, sym, subst, refl, ◌∙◌, arith}
use Rattle.ms_base.specs.declared.kind.Space.{Space}
use Rattle.ms_base.specs.declared.kind.Space.TheVariants.{NonClass, Class}
use Rattle.ms_pool.specs.Source.{ServesBoth}
use Rattle.ms_shared.specs.SeatView.{SeatState, ServesBy, opened_by}
use Rattle.ms_shared.proofs.LockCallLemmas.{moves_at, is_call, over_lock, served_by_pool, own_times, serves_then}
use Rattle.ms_shared.proofs.LockCallLemmas.{limits_stay, close_both_counts}
use Rattle.ms_shared.proofs.LockCloseLemmas.{closes_both, both_known, both_served_by_pool, both_have_nothing}
use Rattle.ms_shared.proofs.MovesLemmas.{close_both_moves}
use Rattle.ms_shared.proofs.locked_pool.LockedPoolAccountSource.close_both.Goals as goal

pub close_both-requires : goal.close_both-requires
close_both-requires g c =
    let known = c.seize-pool.ensures.known in let some =
    subst (λ (s : SeatState). (space : Space) → 0 < opened_by s.knows space) (sym c.self.view_is) c.requires.counted
    in record {
      both = both_served_by_pool _ _ _ _ known
          (subst (λ (s : SeatState). ServesBoth ServesBy s.knows c.args.account c.args.class_account)
          (sym c.self.view_is) (both_known _ _ _ c.requires.both));
      counted = (let one = some NonClass in let most = known.opened NonClass in omega arith);
      class_counted = (let one = some Class in let most = known.opened Class in omega arith);
    }

pub let_go-requires-clause-moves : goal.let_go-requires-clause-moves
let_go-requires-clause-moves g c =
    let v = c.self.inside.seat.me.0 in let pool = c.seize-pool.ensures in
    let some =
    subst (λ (s : SeatState). (space : Space) → 0 < opened_by s.knows space) (sym c.self.view_is) c.requires.counted
    in
    let both =
    subst (λ (s : SeatState). ServesBoth ServesBy s.knows c.args.account c.args.class_account)
    (sym c.self.view_is) (both_known _ _ _ c.requires.both) in
    moves_at v c.seize-pool.result c.close_both.new.self _ pool.seat
    (close_both_moves v.knows _ c.args.account c.args.class_account c.close_both.new.self
    (own_times v.knows _ both.served) (own_times v.knows _ both.class_served)
    some (closes_both _ v.knows _ _ c.close_both.new.self c.close_both.ensures.before pool.known some c.close_both.ensures.closed)
    c.close_both.ensures.closed)

pub returns : goal.returns
returns g c =
    let pool = c.seize-pool.ensures in let closed = c.close_both.ensures.closed in
    let call =
    is_call _ _ c.self.inside.seat.me.0 _ c.seize-pool.result c.close_both.new.self _ _ c.self.invariant.4 c.self.view_is pool.known
    c.close_both.ensures.before c.close_both.ensures.after pool.seat c.let_go.ensures.seat (c.let_go.ensures.own ∙ pool.own) in
    let well =
    closes_both _ _ c.args.account c.args.class_account c.close_both.new.self call.sound call.known
    c.requires.counted closed in
    let nothing =
    both_have_nothing _ _ _ _ call c.args.account c.args.class_account (both_known _ _ _ c.requires.both) closed in
    record {
      others = λ other differs too its. serves_then _ _ _ _ call other other its refl
          (well.others other differs too (served_by_pool _ _ other call.known its));
      counted = close_both_counts _ _ _ _ call _ _ c.requires.counted well;
      limits = limits_stay _ _ _ _ call;
      closed =
          record { event = over_lock _ _ _ _ _ call closed; none = nothing.0; class_none = nothing.1 };
    }
