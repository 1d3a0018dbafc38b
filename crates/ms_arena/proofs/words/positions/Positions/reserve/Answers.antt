use Rattle.std.proofs.Common.{◌<◌, ℕ, subst, sym}
use Rattle.ms_arena.proofs.PositionLemmas.{positions_stay}
use Rattle.ms_arena.proofs.words.positions.Positions.reserve.Goals as goal

pub invariant_of-self : goal.invariant_of-self
invariant_of-self c = λ at stretch low high.
    subst (λ (n : ℕ). 0 < n)
    (sym (positions_stay c.self.inside.newest c.self.inside.others c.reserve.new.self
    c.reserve.ensures.stay stretch))
    (c.make_run_room.ensures c.self.inside.newest c.self.inside.others c.self.invariant at stretch low high)
