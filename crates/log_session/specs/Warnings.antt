-- What is wrong with a log, counted by kind.
use Rattle.std.specs.Prelude.{◌≡◌, ◌⊎◌, ◌+◌, ◌-◌, ◌^◌, ℕ, min, List, [], ◌∷◌, ◌++◌, Some, slice_get, slice_set}
use Rattle.jvm_log.specs.declared.trouble.Trouble.{Trouble}

-- A kind was told before.
abbrev pub IsKnown : Trouble → List (Trouble × ℕ) → Type 0
IsKnown trouble told = (at count : ℕ) × (slice_get told at ≡ Some (trouble, count))

-- It is counted where it stands, up to 2^64 - 1.
pub record CountsMore (trouble : Trouble) (old new : List (Trouble × ℕ)) : Type 0 where
  pub at : ℕ
  pub count : ℕ
  pub known : slice_get old at ≡ Some (trouble, count)
  pub counted : new ≡ slice_set old at (trouble, min (count + 1) (2 ^ 64 - 1))

-- It comes to the end as a new one.
pub record CountsFirst (trouble : Trouble) (old new : List (Trouble × ℕ)) : Type 0 where
  pub unknown : IsKnown trouble old → ⊥
  pub counted : new ≡ old ++ (trouble, 1) ∷ []

-- A line with this kind of trouble is counted.
abbrev pub Counts : Trouble → List (Trouble × ℕ) → List (Trouble × ℕ) → Type 0
Counts trouble old new = CountsMore trouble old new ⊎ CountsFirst trouble old new
