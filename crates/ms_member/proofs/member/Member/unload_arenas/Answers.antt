use Rattle.std.proofs.Common.{sym, subst, ◌∙◌, Option, Some}
use Rattle.std.specs.Arc.{arc_value}
use Rattle.ms_member.specs.declared.member.hosted.Hosted.{Hosted}
use Rattle.ms_member.specs.Member.{HostsArenas}
use Rattle.ms_member.specs.Taking.{ServesAny}
use Rattle.ms_member.proofs.SeatedLemmas.{has_it}
use Rattle.ms_member.proofs.HostedLemmas.{hosted, alone_there, seated_bare}
use Rattle.ms_member.proofs.member.Member.unload_arenas.Goals as goal

-- the seat that has the pool serves the arenas
pub close_hosted-requires-clause-serves : goal.close_hosted-requires-clause-serves
close_hosted-requires-clause-serves c =
    subst (ServesAny c.in-Some.held.seat.knows) (sym c.in-Some-take.ensures.value)
    (hosted c.self.inside.arenas c.self.inside.seat c.in-Some.held c.self.inside.held c.self.inside.loader
    (sym c.in-Some.ensures.value) c.self.invariant.1)

-- and has it still, without any
pub invariant_of-self-2 : goal.invariant_of-self-2
invariant_of-self-2 c =
    let lock = arc_value c.self.inside.shared in let now = c.close_hosted.result in
    let its =
    has_it lock c.self.inside.seat c.self.inside.held c.in-Some.held c.self.inside.loader (sym c.in-Some.ensures.value)
    c.self.invariant.0
    in
    let none =
    alone_there c.self.inside.arenas c.in-Some-take.arenas c.self.inside.seat c.self.inside.held c.self.inside.loader
    (sym c.in-Some-take.ensures.value) c.self.invariant.1
    in (
      seated_bare lock c.self.inside.seat now c.self.inside.loader its.alone none (c.close_hosted.ensures.own ∙ its.own),
      subst (λ (arenas : Option Hosted). HostsArenas arenas c.self.inside.seat (Some now) c.self.inside.loader)
          (sym c.take-2.ensures.after) tt,
      c.self.invariant.2,
    )
