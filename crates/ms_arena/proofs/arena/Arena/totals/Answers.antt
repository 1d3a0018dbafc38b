use Rattle.std.proofs.Common.{ℕ, subst}
use Rattle.ms_base.specs.Hashed.{by_name}
use Rattle.ms_arena.specs.ArenaSums.{AreSumsOf}
use Rattle.ms_arena.proofs.ArenaLemmas.{runs_live}
use Rattle.ms_arena.proofs.HoldLemmas.{held_within}
use Rattle.ms_arena.proofs.arena.Arena.totals.Goals as goal

-- The words of live blocks, and with free blocks, are no more than are in use.
pub totals-requires : goal.totals-requires
totals-requires c = (held_within c.self.inside.raw (by_name c.self.inside.live.entries) c.self.invariant).fit

pub returns-clause-sums : goal.returns-clause-sums
returns-clause-sums c =
    rw (← c.self.view_is, runs_live c.self.inside.raw.words (by_name c.self.inside.live.entries))
    (subst (λ (live : ℕ). AreSumsOf c.totals.result c.self.inside.raw.books live)
    (held_within c.self.inside.raw (by_name c.self.inside.live.entries) c.self.invariant).total c.totals.ensures.sums)
