use Rattle.std.proofs.Common.{inl, inr, refl, sym, subst, ◌∙◌, IfOk, Result}
use Rattle.std.specs.Arc.{arc_value}
use Rattle.ms_base.specs.declared.refusal.Refusal.{Refusal}
use Rattle.ms_member.specs.declared.member.hosted.Hosted.{Hosted}
use Rattle.ms_member.specs.Arenas.{ServesArenas}
use Rattle.ms_member.specs.Hosted.{shown, OpensArenas}
use Rattle.ms_member.proofs.HostedLemmas.{some_there, none_there, hosts_made}
use Rattle.ms_member.proofs.member.Member.new_arenas.Goals as goal

-- there is a loader without names
pub returns-then-is_some-2 : goal.returns-then-is_some-2
returns-then-is_some-2 c =
    rw (← c.self.view_is)
    (inl (refl, inr (some_there c.self.inside.arenas (sym c.is_some-2.ensures ∙ c.if-is_some-2.true)), refl))

-- the seat that has the pool serves the new arenas, and no loader
pub invariant_of-self-in-Ok : goal.invariant_of-self-in-Ok
invariant_of-self-in-Ok c =
    let lock = arc_value c.self.inside.shared in let made = c.open_hosted-held in
    hosts_made lock c.self.inside.seat c.self.inside.held c.in-Some.held made.result.0 c.self.inside.loader c.in-Ok.arenas _
    _ (sym c.in-Some.ensures.value) (none_there c.self.inside.loader (sym c.is_some.ensures ∙ c.if-is_some.false))
    made.ensures.own
    (subst (λ (r : Result Hosted Refusal). IfOk r (λ is. ServesArenas made.result.0.seat.knows (shown is))) c.in-Ok.is
    made.ensures.serves)
    c.self.invariant

-- both accounts were opened
pub returns-in-Ok : goal.returns-in-Ok
returns-in-Ok c =
    let now = c.open_hosted-held.result.0 in rw (← c.self.view_is) (record {
      held = c.in-Some.held;
      now = now;
      arenas = c.in-Ok.arenas;
      none = none_there c.self.inside.loader (sym c.is_some.ensures ∙ c.if-is_some.false);
      none_too = none_there c.self.inside.arenas (sym c.is_some-2.ensures ∙ c.if-is_some-2.false);
      was = sym c.in-Some.ensures.value;
      opened = subst (λ (r : Result Hosted Refusal). IfOk r (OpensArenas c.args.is_bare c.args.kind c.in-Some.held now))
          c.in-Ok.is c.open_hosted-held.ensures.opened;
      new_is = refl;
    })
