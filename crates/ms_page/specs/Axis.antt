-- The axes of a chart (this project's choice).
use Rattle.std.specs.Prelude.{◌≡◌, ℕ, ◌*◌, ◌^◌, ◌<◌, ◌≤◌, ◌⊎◌, max}
use Rattle.std.specs.Int.{div_ceil}

-- A step of words: a power of two, 1024 or more; five of it reach the words, and five of half of it
-- don't unless it is 1024.
pub record IsWordStep (words step : ℕ) : Type 0 where
  pub power : (halvings : ℕ) × (step ≡ 1024 * 2 ^ halvings)
  pub reaches : words ≤ 5 * step
  pub least : (step ≡ 1024) ⊎ (5 * step < 2 * words)

-- A number that a person counts in: 1, 2, 5, 10, 20, 50 and so on.
pub record IsRound (number : ℕ) : Type 0 where
  pub leading : ℕ
  pub tens : ℕ
  pub one : (leading ≡ 1) ⊎ ((leading ≡ 2) ⊎ (leading ≡ 5))
  pub is : number ≡ leading * 10 ^ tens

-- A step of a count: the least of these numbers of which five reach the count.
pub record IsCountStep (count step : ℕ) : Type 0 where
  pub round : IsRound step
  pub reaches : count ≤ 5 * step
  pub least : (other : ℕ) → IsRound other → count ≤ 5 * other → step ≤ other

-- The least power of ten of which twenty-five reach a count.
pub record IsDecade (count decade : ℕ) : Type 0 where
  pub power : (tens : ℕ) × (decade ≡ 10 ^ tens)
  pub reaches : count ≤ 25 * decade
  pub least : (decade ≡ 1) ⊎ (5 * decade < 2 * count)

-- How many steps reach a number: one at least.
abbrev pub steps : ℕ → ℕ → ℕ
steps number step = max (div_ceil number step) 1
