use Rattle.std.proofs.Common.{sym, subst, ◌∙◌, Option, None, Some}
use Rattle.std.specs.Arc.{arc_value}
use Rattle.ms_loader.specs.Loader.{LoaderView}
use Rattle.ms_shared.specs.SeatView.{SeatState}
use Rattle.ms_member.specs.declared.member.hosted.Hosted.{Hosted}
use Rattle.ms_member.specs.Member.{IsSeated, ServesIt, HostsArenas}
use Rattle.ms_member.proofs.SeatedLemmas.{has_it}
use Rattle.ms_member.proofs.HostedLemmas.{no_arenas}
use Rattle.ms_member.proofs.member.Member.unload_named.Goals as goal

-- the seat that has the pool serves the loader
pub close_over-requires-clause-serves : goal.close_over-requires-clause-serves
close_over-requires-clause-serves c =
    subst (ServesIt c.in-Some.held.seat.knows) (sym c.in-Some-take.ensures.value)
    (has_it (arc_value c.self.inside.shared) c.self.inside.seat c.self.inside.held c.in-Some.held c.self.inside.loader
    (sym c.in-Some.ensures.value) c.self.invariant.0).serves

-- and has it still, without a loader
pub invariant_of-self-2 : goal.invariant_of-self-2
invariant_of-self-2 c =
    let lock = arc_value c.self.inside.shared in
    let its =
    has_it lock c.self.inside.seat c.self.inside.held c.in-Some.held c.self.inside.loader (sym c.in-Some.ensures.value)
    c.self.invariant.0
    in (
      subst (λ (seat : Option SeatState). IsSeated lock seat (Some c.close_over.result) c.take-2.new.self) (sym its.alone)
          (subst (λ (loader : Option LoaderView). IsSeated lock None (Some c.close_over.result) loader)
          (sym c.take-2.ensures.after) (c.close_over.ensures.own ∙ its.own, tt)),
      subst (λ (arenas : Option Hosted).
          HostsArenas arenas c.self.inside.seat (Some c.close_over.result) c.take-2.new.self)
          (sym (no_arenas c.self.inside.arenas c.self.inside.seat c.self.inside.held c.self.inside.loader
          c.in-Some-take.loader (sym c.in-Some-take.ensures.value) c.self.invariant.1)) tt,
      c.self.invariant.2,
    )
