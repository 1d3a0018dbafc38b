-- Counts of numbers that lie between two bounds, and granules that a run meets as such numbers.
use Rattle.std.proofs.Common.{◌≡◌, ◌≤◌, ◌<◌, ℕ, zero, suc, ◌+◌, ◌-◌, ◌*◌, ◌/◌, Bool, true, false, cond, not, ◌&&◌, ◌||◌}
use Rattle.std.proofs.Common.{List, [], ◌∷◌, length, refl, sym, ap, ◌∙◌, arith, inl, inr}
use Rattle.std.specs.Prelude.{nat_lt, nat_le}
use Rattle.std.specs.List.{filter, range_with_len}
use Rattle.std.specs.Cmp.{both_ways as same_truth}
use Rattle.std.proofs.lemmas.Nat.{mul-le, div-add-mod', mod_below, le-div}
use Rattle.std.proofs.Math.Nat.{add-mul}
use Rattle.std.proofs.lemmas.Bool.{cases_lt}
use Rattle.std.proofs.lemmas.Bool.Decides.{nat_tests}
use Rattle.ms_base.specs.Interval.{meet}
use Rattle.ms_base.proofs.granules.GranuleLemmas.{below_from_product}
use Rattle.ms_base.proofs.granules.FreeGranuleLemmas.{meets_bounds, bounds_meet}

-- What passes one of two tests passes the first, or the second alone.
pub count_or : (p m : ℕ → Bool) (xs : List ℕ)
    → length (filter (λ n. p n || m n) xs) ≡ length (filter p xs) + length (filter (λ n. not (p n)) (filter m xs))
count_or p m [] = refl
count_or p m (x ∷ xs) =
    elim (p x) as (λ b. p x ≡ b
    → length (cond (b || m x) (x ∷ both) both)
    ≡ length (cond b (x ∷ first) first) + length (filter alone (cond (m x) (x ∷ second) second))) [
      | true ↦ λ e.
          elim (m x) as (λ c. length (x ∷ both)
          ≡ length (x ∷ first) + length (filter alone (cond c (x ∷ second) second))) [
            | true ↦ rw e (omega (arith, count_or p m xs))
            | false ↦ omega (arith, count_or p m xs)
          ]
      | false ↦
          λ e. elim (m x) as (λ c. length (cond c (x ∷ both) both)
          ≡ length first + length (filter alone (cond c (x ∷ second) second))) [
            | true ↦ rw e (omega (arith, count_or p m xs))
            | false ↦ count_or p m xs
          ]
    ] refl
  where
    both : List ℕ
    both = filter (λ n. p n || m n) xs

    first : List ℕ
    first = filter p xs

    second : List ℕ
    second = filter m xs

    alone : ℕ → Bool
    alone n = not (p n)

-- Of a range, the numbers between two bounds.
abbrev pub between : ℕ → ℕ → ℕ → Bool
between low high n = nat_le low n && nat_lt n high

pub none_in : (p : ℕ → Bool) (a n : ℕ) → ((k : ℕ) → a ≤ k → k < a + n → p k ≡ false) → filter p (range_with_len a n) ≡ []
none_in p a zero fails = refl
none_in p a (suc n) fails =
    ap (λ b. cond b (a ∷ filter p (range_with_len (a + 1) n)) (filter p (range_with_len (a + 1) n)))
    (fails a (omega arith) (omega arith))
    ∙ none_in p (a + 1) n (λ k h m. fails k (omega arith) (omega arith))

pub is_between : (low high n : ℕ) → low ≤ n → n < high → between low high n ≡ true
is_between low high n h k = grind (arith, nat_tests)

is_below : (low high n : ℕ) → n < low → between low high n ≡ false
is_below low high n h = grind (arith, nat_tests)

is_above : (low high n : ℕ) → high ≤ n → between low high n ≡ false
is_above low high n h = grind (arith, nat_tests)

from_low : (low a n count : ℕ) → low ≤ a → count ≤ n
    → filter (between low (a + count)) (range_with_len a n) ≡ range_with_len a count
from_low low a n zero h k = none_in (between low (a + 0)) a n (λ j i m. is_above low (a + 0) j (omega arith))
from_low low a zero (suc count) h k = absurd (omega arith)
from_low low a (suc n) (suc count) h k =
    ap (λ b. cond b (a ∷ filter (between low (a + suc count)) (range_with_len (a + 1) n))
    (filter (between low (a + suc count)) (range_with_len (a + 1) n)))
    (is_between low (a + suc count) a h (omega arith))
    ∙ ap (λ (l : List ℕ). a ∷ l)
    (ap (λ (high : ℕ). filter (between low high) (range_with_len (a + 1) n)) moved
    ∙ from_low low (a + 1) n count (omega arith) (omega arith))
  where
    moved : a + suc count ≡ a + 1 + count
    moved = omega arith

pub kept_between : (a n low count : ℕ) → a ≤ low → low + count ≤ a + n
    → filter (between low (low + count)) (range_with_len a n) ≡ range_with_len low count
kept_between a zero low count h k =
    let none : count ≡ 0 = omega arith in ap (range_with_len low) (sym none)
kept_between a (suc n) low count h k = elim (cases_lt a low) [
  | inl less ↦
      ap (λ b. cond b (a ∷ filter (between low (low + count)) (range_with_len (a + 1) n))
      (filter (between low (low + count)) (range_with_len (a + 1) n))) (is_below low (low + count) a less)
      ∙ kept_between (a + 1) n low count (omega arith) (omega arith)
  | inr same ↦
      let e : a ≡ low = omega arith in
      ap (λ (b : ℕ). filter (between low (low + count)) (range_with_len b (suc n))) e
      ∙ from_low low low (suc n) count (omega arith) (omega arith)
]

-- The granules that meet a front are those from its first to its last.
pub meets_between : (granule start words k : ℕ) → 1 ≤ granule → 1 ≤ words
    → meet start words (k * granule) granule ≡ between (start / granule) ((start + words - 1) / granule + 1) k
meets_between granule start words k some few =
    same_truth (meet start words (k * granule) granule)
    (between (start / granule) ((start + words - 1) / granule + 1) k) gives taken
  where
    gives : meet start words (k * granule) granule ≡ true
        → between (start / granule) ((start + words - 1) / granule + 1) k ≡ true
    gives meets = let bounds = meets_bounds start words (k * granule) granule meets in
        let low : start / granule < k + 1 =
        below_from_product (start / granule) (k + 1) granule
        (omega (arith, bounds.0, div-add-mod' start granule, add-mul k 1 granule)) in
        let high = le-div k (start + words - 1) granule (omega (arith, some)) (omega (arith, bounds.1, few)) in
        is_between (start / granule) ((start + words - 1) / granule + 1) k (omega (arith, low)) (omega (arith, high))

    bounds_of : (low high : ℕ) → between low high k ≡ true → (low ≤ k) × (k < high)
    bounds_of low high e = (lower low high e, upper low high e)
      where
        lower : (low high : ℕ) → between low high k ≡ true → low ≤ k
        lower low high e = grind (arith, nat_tests)

        upper : (low high : ℕ) → between low high k ≡ true → k < high
        upper low high e = grind (arith, nat_tests)

    taken : between (start / granule) ((start + words - 1) / granule + 1) k ≡ true
        → meet start words (k * granule) granule ≡ true
    taken e = let bounds = bounds_of (start / granule) ((start + words - 1) / granule + 1) e in
        bounds_meet start words (k * granule) granule
        (omega (
          arith,
          div-add-mod' start granule,
          mod_below start granule (omega (arith, some)),
          mul-le (start / granule) granule k granule bounds.0 (omega arith),
        ))
        (omega (
          arith,
          few,
          div-add-mod' (start + words - 1) granule,
          mul-le k granule ((start + words - 1) / granule) granule (omega (arith, bounds.1)) (omega arith),
        ))
