use Rattle.std.proofs.Common.{◌≡◌, ◌+◌, ◌-◌, ◌*◌, ◌<◌, ◌≤◌, ◌⊎◌, ℕ}
use Rattle.std.specs.Prelude.{◌^◌}
use Rattle.ms_page.proofs.axis.word_step.Given as goal

-- The step so far is a power, and half of it doesn't reach unless it is the least.
pub record IsSoFar (words step : ℕ) : Type 0 where
  pub power : (halvings : ℕ) × (step ≡ 1024 * 2 ^ halvings)
  pub least : (step ≡ 1024) ⊎ (5 * step < 2 * words)
  pub some : 1 ≤ step
  pub small : step ≤ 2 * words + 1024

abbrev pub invariant-loop-step : goal.invariant-loop-step
invariant-loop-step l = IsSoFar l.words l.step

abbrev pub decreases-loop-step : goal.decreases-loop-step
decreases-loop-step l = l.words - l.step
