use Rattle.std.proofs.Common.{◌≡◌, ◌+◌, ◌-◌, ◌*◌, ◌<◌, ◌≤◌, ◌⊎◌, ℕ}
use Rattle.std.specs.Prelude.{◌^◌}
use Rattle.ms_page.proofs.axis.decade.Given as goal

-- The decade so far is a power of ten, and twenty-five of a tenth of it don't reach unless it is 1.
pub record IsSoFar (count decade : ℕ) : Type 0 where
  pub power : (tens : ℕ) × (decade ≡ 10 ^ tens)
  pub least : (decade ≡ 1) ⊎ (5 * decade < 2 * count)
  pub some : 1 ≤ decade
  pub small : decade ≤ count + 1

abbrev pub invariant-loop-decade : goal.invariant-loop-decade
invariant-loop-decade l = IsSoFar l.count l.decade

abbrev pub decreases-loop-decade : goal.decreases-loop-decade
decreases-loop-decade l = l.count + 1 - l.decade
