use Rattle.std.proofs.Common.{◌∙◌, sym, inr, ap, Option, Some}
use Rattle.std.specs.Arc.{arc_value}
use Rattle.ms_shared.specs.SeatView.{SeatState}
use Rattle.ms_member.proofs.SeatedLemmas.{has_pool, lacks_it}
use Rattle.ms_member.proofs.member.Member.hold.Goals as goal

-- a seat that isn't alone has the pool
pub returns-in_default-clause-held : goal.returns-in_default-clause-held
returns-in_default-clause-held c = λ _. rw (← c.self.view_is) (inr (
  has_pool (arc_value c.self.inside.shared) _ _ _ (sym c.in_default.ensures.value) c.self.invariant.0,
  ap (λ (s : Option SeatState). record {
    seat = s;
    held = c.self.inside.held;
    spare = c.self.inside.spare.items;
    loader = c.self.inside.loader;
    arenas = c.self.inside.arenas;
  }) (c.take.ensures.after ∙ c.in_default.ensures.value),
))

-- a seat that is alone lacks it, and is put back
pub returns-in-Err-clause-busy : goal.returns-in-Err-clause-busy
returns-in-Err-clause-busy c = λ _. rw (← c.self.view_is) (
  (lacks_it (arc_value c.self.inside.shared) c.self.inside.seat c.in-Some.seat c.self.inside.held c.self.inside.loader
      (sym c.in-Some.ensures.value) c.self.invariant.0).alone,
  ap (λ (s : Option SeatState). record {
    seat = s;
    held = c.self.inside.held;
    spare = c.self.inside.spare.items;
    loader = c.self.inside.loader;
    arenas = c.self.inside.arenas;
  }) (ap (λ (s : SeatState). Some s) c.in-Err.ensures.busy ∙ c.in-Some.ensures.value),
)
