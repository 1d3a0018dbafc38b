-- No kind passed so far is the wanted one.
use Rattle.std.proofs.Common.{◌≡◌, ◌<◌, ℕ, Some}
use Rattle.std.specs.Prelude.{slice_get}
use Rattle.log_session.proofs.warnings.Warnings.index_of.Given as goal

abbrev pub invariant-loop-at : goal.invariant-loop-at
invariant-loop-at l = (q count : ℕ) → q < l.at → slice_get l.self.told.items q ≡ Some (l.trouble, count) → ⊥
