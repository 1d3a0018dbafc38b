use Rattle.std.proofs.Common.{◌<◌, ℕ, subst, sym}
use Rattle.ms_arena.specs.Positions.{position_in}
use Rattle.ms_arena.proofs.PositionLemmas.{still_there}
use Rattle.ms_arena.proofs.words.positions.Positions.put.Goals as goal

pub invariant_of-self : goal.invariant_of-self
invariant_of-self c = λ at stretch low high.
    subst (λ (n : ℕ). 0 < n) (sym (c.enter_all.ensures.put stretch))
    (still_there c.args.first c.args.past c.args.position stretch (position_in c.self.inside.newest c.self.inside.others stretch)
    c.requires.some (c.self.invariant at stretch low high))
