use Rattle.std.proofs.Common.{arith, inl, inr}
use Rattle.ms_base.proofs.free.HalvesLemmas.{size_falls}
use Rattle.ms_pool.proofs.searches.LevelBitLemmas.{below_small}
use Rattle.ms_pool.proofs.search.small_levels.Goals as goal

pub returns-in-Aggressive : goal.returns-in-Aggressive
returns-in-Aggressive c = λ level few clear.
    rw (c.in-Aggressive.is) (size_falls level 8 (omega (arith, below_small 9 level few clear)))

pub returns-in-Balanced : goal.returns-in-Balanced
returns-in-Balanced c = λ level few clear.
    let large = size_falls level 6 (omega (arith, below_small 7 level few clear)) in
    elim c.in-Balanced.is [
      | inl is ↦ rw is large
      | inr is ↦ rw is large
    ]
