use Rattle.std.proofs.Common.{◌≡◌, ◌∙◌, sym, refl, subst, Option, Some}
use Rattle.std.specs.Arc.{arc_value}
use Rattle.ms_shared.specs.SeatView.{HeldState}
use Rattle.ms_member.specs.Member.{MemberState, IsSeated, HostsArenas}
use Rattle.ms_member.specs.Taking.{AnswersTake}
use Rattle.ms_member.proofs.HostedLemmas.{hosts_alone}
use Rattle.ms_member.proofs.TakingLemmas.{take_answers}
use Rattle.ms_member.proofs.member.Member.take.Goals as goal

-- what the arenas answered over the pool
pub returns : goal.returns
returns c =
    let old : MemberState = record {
      seat = c.self.inside.seat;
      held = c.self.inside.held;
      spare = c.self.inside.spare.items;
      loader = c.self.inside.loader;
      arenas = c.self.inside.arenas;
    } in
    let new : MemberState = record {
      seat = c.self.inside.seat;
      held = Some c.take_any-held.result.0;
      spare = c.self.inside.spare.items;
      loader = c.self.inside.loader;
      arenas = c.take_any-held.new.arenas;
    } in
    subst (λ (m : MemberState). AnswersTake c.args.space c.args.words m (Some c.take_any-held.result.1) new) c.self.view_is
    (take_answers c.args.space c.args.words old new c.in-Some.held c.take_any-held.result.0 c.take_any-held.result.1
    c.take_any-held.new.arenas (sym c.in-Some.ensures.value) refl c.take_any-held.ensures.takes)

-- the seat without the pool serves the arenas still
pub invariant_of-self : goal.invariant_of-self
invariant_of-self c =
    let is = c.self.inside in let held = c.take.new.self in
    let same : is.held ≡ held = sym (c.take.ensures.after ∙ c.in_default.ensures.value) in (
      subst (λ (h : Option HeldState). IsSeated (arc_value is.shared) is.seat h is.loader) same c.self.invariant.0,
      hosts_alone c.args.space c.args.words is.arenas c.place_alone.new.arenas is.seat held is.loader _ c.place_alone.ensures
          (subst (λ (h : Option HeldState). HostsArenas is.arenas is.seat h is.loader) same c.self.invariant.1),
      c.self.invariant.2,
    )
