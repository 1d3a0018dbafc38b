-- A trace begins.
use Rattle.std.proofs.Common.{Bool, ap, refl, subst}
use Rattle.jvm_log.specs.Following.{KnowsNothing}
use Rattle.jvm_log.specs.Held.{none_may_go}
use Rattle.jvm_log.specs.Known.{known_in}
use Rattle.log_session.proofs.UnderWayLemmas.{begins}
use Rattle.log_session.proofs.conversion.Conversion.new.Goals as goal

pub returns : goal.returns
returns g c = record {
  options_are = refl;
  awaits = record { more = c.in_ok-new.ensures.closed; first = ap none_may_go c.in_ok-new.ensures.lines };
  comes = λ start.
      begins start _
      (subst (λ (reports : Bool). KnowsNothing reports (known_in c.in_ok-new.field-0)) c.are_after_collections.ensures c.in_ok-new.ensures)
      c.new-4.ensures.items c.new-5.ensures;
}
