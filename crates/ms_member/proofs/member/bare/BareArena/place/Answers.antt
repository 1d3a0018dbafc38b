use Rattle.ms_member.proofs.BareLemmas.{gains_placed, none_placed, stays_bare}
use Rattle.ms_member.proofs.member.bare.BareArena.place.Goals as goal

pub returns-clause-placed : goal.returns-clause-placed
returns-clause-placed c = rw (← c.self.view_is) c.place.ensures.placed

pub returns-clause-gains : goal.returns-clause-gains
returns-clause-gains c =
    rw (← c.self.view_is) (gains_placed c.self.inside.raw c.place.new.self c.place.result c.place.ensures.gains)

pub returns-clause-none : goal.returns-clause-none
returns-clause-none c =
    rw (← c.self.view_is) (none_placed c.self.inside.raw c.place.new.self c.place.result c.place.ensures.none)

pub returns-clause-unchanged : goal.returns-clause-unchanged
returns-clause-unchanged c =
    rw (← c.self.view_is) (stays_bare c.self.inside.raw c.place.new.self c.place.result c.place.ensures.unchanged)
