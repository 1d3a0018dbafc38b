-- The level that holds a number of words is the greatest whose chunks do. The law on levels uses
-- this.
use Rattle.std.proofs.Common.{◌≡◌, ◌≤◌, ◌<◌, ℕ, zero, suc, ◌+◌, ◌-◌, Bool, true, false, ap, ◌∙◌, inl, inr, arith}
use Rattle.std.specs.Prelude.{nat_le}
use Rattle.std.specs.List.{count_by, range_with_len}
use Rattle.std.proofs.lemmas.Bool.{cases_eq, cases_Bool, both_ways, leb-true, le-leb, false_from_ne_true}
use Rattle.std.proofs.lemmas.List.Sums.{sum_by-cons, count_by-le-length}
use Rattle.ms_base.specs.Level.{size_of, level_that_holds, highest_level}
use Rattle.ms_base.specs.Laws.Level.{IsGreatest}
use Rattle.ms_base.proofs.free.HalvesLemmas.{size_falls}
use Rattle.ms_base.proofs.runs.PermutedLemmas.{one_if}

-- A test that passes wherever it passes at the next number.
abbrev GoesDown : (ℕ → Bool) → Type 0
GoesDown p = (k : ℕ) → p (k + 1) ≡ true → p k ≡ true

counted : (p : ℕ → Bool) (a n : ℕ)
    → count_by p (range_with_len a (suc n)) ≡ one_if (p a) + count_by p (range_with_len (a + 1) n)
counted p a n = sum_by-cons (λ x. one_if (p x)) a (range_with_len (a + 1) n)

-- Where such a test fails, it passes nowhere above; where it passes, it passes everywhere below.
counts_none : (p : ℕ → Bool) → GoesDown p → (a n : ℕ) → p a ≡ false → count_by p (range_with_len a n) ≡ 0
counts_none p down a zero fails = omega arith
counts_none p down a (suc n) fails = omega (
  arith,
  counted p a n,
  ap one_if fails,
  counts_none p down (a + 1) n (false_from_ne_true (p (a + 1)) (λ e. both_ways (p a) fails (down a e))),
)

passes_down : (p : ℕ → Bool) → GoesDown p → (a d : ℕ) → p (a + d) ≡ true → p a ≡ true
passes_down p down a zero passes = ap p (omega arith) ∙ passes
passes_down p down a (suc d) passes = passes_down p down a d (down (a + d) (ap p (omega arith) ∙ passes))

-- Such a test passes at a number of a range exactly where the number is below as many as pass.
passes_below : (p : ℕ → Bool) → GoesDown p → (a n k : ℕ) → a ≤ k → k < a + n → p k ≡ true
    → k < a + count_by p (range_with_len a n)
passes_below p down a zero k h m passes = absurd (omega arith)
passes_below p down a (suc n) k h m passes = elim (cases_eq k a) [
  | inl e ↦ omega (arith, counted p a n, ap one_if here, e)
  | inr e ↦
      omega (
        arith,
        counted p a n,
        ap one_if here,
        passes_below p down (a + 1) n k (omega (arith, e))
            (omega arith) passes,
      )
]
  where
    here : p a ≡ true
    here = passes_down p down a (k - a) (ap p (omega arith) ∙ passes)

below_passes : (p : ℕ → Bool) → GoesDown p → (a n k : ℕ) → k < a + count_by p (range_with_len a n) → a ≤ k → p k ≡ true
below_passes p down a zero k h m = absurd (omega arith)
below_passes p down a (suc n) k h m = elim (cases_Bool (p a)) [
  | inl here ↦ elim (cases_eq k a) [
    | inl e ↦ ap p e ∙ here
    | inr e ↦ below_passes p down (a + 1) n k (omega (arith, counted p a n, ap one_if here)) (omega (arith, e))
  ]
  | inr fails ↦ absurd (omega (arith, counts_none p down a (suc n) fails))
]

-- A level's chunks hold what the next level's do.
holds_down : (words : ℕ) → GoesDown (λ level. nat_le words (size_of level))
holds_down words k e = le-leb words (size_of k) (omega (arith, leb-true words (size_of (k + 1)) e, size_falls k (k + 1) (omega arith)))

-- Of the levels 0 to 12 exactly those up to the one that holds so many words do.
pub level_is_greatest : (words : ℕ) → words ≤ size_of 0 → IsGreatest words
level_is_greatest words small = record {
  below = count_by-le-length holds (range_with_len 1 highest_level);
  holds = λ level h. (up_to level h, held level h);
}
  where
    holds : ℕ → Bool
    holds level = nat_le words (size_of level)

    up_to : (level : ℕ) → level ≤ highest_level → words ≤ size_of level → level ≤ level_that_holds words
    up_to level h fits = elim (cases_eq level 0) [
      | inl root ↦ omega (arith, root)
      | inr other ↦
          omega (
            arith,
            passes_below holds (holds_down words) 1 highest_level level (omega (arith, other)) (omega arith)
                (le-leb words (size_of level) fits),
          )
    ]

    held : (level : ℕ) → level ≤ highest_level → level ≤ level_that_holds words → words ≤ size_of level
    held level h k = elim (cases_eq level 0) [
      | inl root ↦ omega (arith, small, ap size_of root)
      | inr other ↦ leb-true words (size_of level)
          (below_passes holds (holds_down words) 1 highest_level level (omega arith) (omega (arith, other)))
    ]
