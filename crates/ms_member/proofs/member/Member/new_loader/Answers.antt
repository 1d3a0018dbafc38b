use Rattle.std.proofs.Common.{inl, inr, refl, sym, ap, subst, ◌∙◌, Option, Some, IfOk, Result}
use Rattle.std.specs.Arc.{arc_value}
use Rattle.ms_base.specs.declared.refusal.Refusal.{Refusal}
use Rattle.ms_loader.specs.Loader.{LoaderView}
use Rattle.ms_shared.specs.SeatView.{SeatState}
use Rattle.ms_member.specs.declared.member.hosted.Hosted.{Hosted}
use Rattle.ms_member.specs.Member.{MemberState, IsSeated, HostsArenas, ServesLoader}
use Rattle.ms_member.proofs.SeatedLemmas.{has_it}
use Rattle.ms_member.proofs.HostedLemmas.{some_there, none_there}
use Rattle.ms_member.proofs.member.Member.new_loader.Goals as goal

-- there is a loader without names
pub returns-then-is_some-2 : goal.returns-then-is_some-2
returns-then-is_some-2 c =
    let there = some_there c.self.inside.arenas (sym c.is_some-2.ensures ∙ c.if-is_some-2.true) in
    inl (refl, inr (there.0, ap (λ (m : MemberState). m.arenas) (sym c.self.view_is) ∙ there.1), refl)

-- the seat that has the pool serves the new loader, and no arenas
pub invariant_of-self-in-Ok : goal.invariant_of-self-in-Ok
invariant_of-self-in-Ok c =
    let lock = arc_value c.self.inside.shared in let now = c.open_over-held.result.0 in
    let its =
    has_it lock c.self.inside.seat c.self.inside.held c.in-Some.held c.self.inside.loader (sym c.in-Some.ensures.value)
    c.self.invariant.0
    in
    let serves =
    subst (λ (r : Result LoaderView Refusal). IfOk r (ServesLoader now.seat.knows)) c.in-Ok.is c.open_over-held.ensures.serves
    in (
      subst (λ (seat : Option SeatState). IsSeated lock seat (Some now) (Some c.in-Ok.loader)) (sym its.alone)
          (c.open_over-held.ensures.own ∙ its.own, serves),
      subst (λ (arenas : Option Hosted). HostsArenas arenas c.self.inside.seat (Some now) (Some c.in-Ok.loader))
          (sym (none_there c.self.inside.arenas (sym c.is_some-2.ensures ∙ c.if-is_some-2.false))) tt,
      c.self.invariant.2,
    )
