use Rattle.std.proofs.Common.{◌∙◌, ◌<◌, sym, subst, refl, arith, ap}
use Rattle.ms_base.specs.declared.kind.Space.{Space}
use Rattle.ms_base.specs.declared.kind.Space.TheVariants.{NonClass, Class}
use Rattle.ms_pool.specs.Source.{ServesBoth}
use Rattle.ms_shared.proofs.LockCallLemmas.{over_lock, served_by_pool, own_times, serves_then}
use Rattle.ms_shared.proofs.LockCallLemmas.{limits_stay, close_both_counts}
use Rattle.ms_shared.proofs.LockCloseLemmas.{closes_both, both_known, both_served_by_pool, both_have_nothing}
use Rattle.ms_shared.specs.SeatView.{HeldState, ServesBy, opened_by}
use Rattle.ms_shared.proofs.HoldLemmas.{is_event, is_held_call, moves_held, still_held, both_at}
use Rattle.ms_shared.proofs.MovesLemmas.{close_both_moves}
use Rattle.ms_shared.proofs.held_pool.HeldPoolAccountSource.close_both.Goals as goal

pub close_both-requires : goal.close_both-requires
close_both-requires c =
    let known = c.self.invariant.5 in let some =
    subst (λ (s : HeldState). (space : Space) → 0 < opened_by s.seat.knows space) (sym c.self.view_is) c.requires.counted
    in record {
      both = both_served_by_pool _ _ _ _ known
          (subst (λ (s : HeldState). ServesBoth ServesBy s.seat.knows c.args.account c.args.class_account)
          (sym c.self.view_is) (both_known _ _ _ (both_at _ _ _ c.requires.both)));
      counted = (let one = some NonClass in let most = known.opened NonClass in omega arith);
      class_counted = (let one = some Class in let most = known.opened Class in omega arith);
    }

pub note-requires-clause-moves : goal.note-requires-clause-moves
note-requires-clause-moves c =
    let v = c.self.inside.seat.me.0 in
    let some =
    subst (λ (s : HeldState). (space : Space) → 0 < opened_by s.seat.knows space) (sym c.self.view_is) c.requires.counted
    in
    let both =
    subst (λ (s : HeldState). ServesBoth ServesBy s.seat.knows c.args.account c.args.class_account)
    (sym c.self.view_is) (both_known _ _ _ (both_at _ _ _ c.requires.both)) in
    moves_held v c.self.inside.pool c.close_both.new.self c.self.invariant.3
    (close_both_moves v.knows _ c.args.account c.args.class_account c.close_both.new.self
    (own_times v.knows _ both.served) (own_times v.knows _ both.class_served)
    some (closes_both _ v.knows _ _ c.close_both.new.self c.close_both.ensures.before c.self.invariant.5 some c.close_both.ensures.closed)
    c.close_both.ensures.closed)

pub invariant_of-self : goal.invariant_of-self
invariant_of-self c =
    still_held _ _ _ _ c.close_both.new.self _ _ (c.note.ensures.own ∙ c.self.invariant.0) c.self.invariant.3 c.self.invariant.1 c.self.invariant.2 c.self.invariant.4
    c.note.ensures.seat c.note.ensures.known c.self.invariant.5

pub returns : goal.returns
returns c =
    let closed = c.close_both.ensures.closed in
    let call =
    is_held_call _ _ c.self.inside.seat.me.0 _ c.self.inside.pool c.close_both.new.self _ _ c.self.invariant.4 (ap (λ (h : HeldState). h.seat) c.self.view_is) c.self.invariant.5 c.close_both.ensures.before c.close_both.ensures.after c.self.invariant.3 c.note.ensures.seat c.note.ensures.own in
    let well =
    closes_both _ _ c.args.account c.args.class_account c.close_both.new.self call.sound call.known
    c.requires.counted closed in
    let nothing =
    both_have_nothing _ _ _ _ call c.args.account c.args.class_account (both_known _ _ _ (both_at _ _ _ c.requires.both)) closed in
    record {
      others = λ other differs too its. serves_then _ _ _ _ call other other its refl
          (well.others other differs too (served_by_pool _ _ other call.known its));
      counted = close_both_counts _ _ _ _ call _ _ c.requires.counted well;
      limits = limits_stay _ _ _ _ call;
      closed = (
        record { event = over_lock _ _ _ _ _ call closed; none = nothing.0; class_none = nothing.1 },
        is_event _ _ _ c.self.view_is call,
      );
    }
