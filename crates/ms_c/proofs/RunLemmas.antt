-- Runs of uncommitted granules that are asked for one after another: they are apart, and have just
-- the granules that went.
use Rattle.std.proofs.Common.{◌≡◌, ℕ, ◌+◌, ◌<◌, ◌≤◌, Bool, true, false, ◌&&◌, ◌||◌, List, [], ◌∷◌, nat_le, nat_lt, refl}
use Rattle.std.proofs.Common.{sym, ap, ◌∙◌, inl, inr, arith, not, map, get_or}
use Rattle.std.specs.List.{range_with_len}
use Rattle.std.proofs.lemmas.Bool.{cases_lt, cases_eq}
use Rattle.std.proofs.lemmas.Bool.Decides.{nat_tests}
use Rattle.std.proofs.lemmas.List.{get_or_past}
use Rattle.std.proofs.lemmas.List.FromFn.{get_or-map-range_with_len, length-map-range_with_len}
use Rattle.ms_loaders.specs.declared.system.committing.GranuleRun.{GranuleRun}
use Rattle.ms_member.specs.Uncommitted.{is_uncommitted}
use Rattle.ms_c.specs.Laws.{AreAsked, AreApart, is_of_one}

-- Whether a number is one of a run.
before_it : (first count number : ℕ) → number < first
    → (nat_le first number && nat_lt number (first + count)) ≡ false
before_it first count number less = grind (arith, nat_tests)

in_it : (first count number : ℕ) → first ≤ number → number < first + count
    → (nat_le first number && nat_lt number (first + count)) ≡ true
in_it first count number from less = grind (arith, nat_tests)

past_it : (first count number : ℕ) → first + count ≤ number
    → (nat_le first number && nat_lt number (first + count)) ≡ false
past_it first count number past = grind (arith, nat_tests)

module _ (went : ℕ → Bool) where
  -- Past a granule that didn't go the runs don't touch it.
  apart_past : (runs : List GranuleRun) (from : ℕ) → went from ≡ false → AreAsked went from runs → AreApart (from + 1) runs
  apart_past [] from stays its = tt
  apart_past (run ∷ runs) from stays its = (
    elim (cases_eq from run.first) [
      | inl same ↦ absurd (let is = its.0.begins.is in let at = ap went same in cc)
      | inr differ ↦ omega (arith, its.0.begins.after, differ)
    ],
    its.0.some,
    apart_past runs (run.first + run.granules) its.0.ends its.1,
  )

  pub are_apart : (runs : List GranuleRun) (from : ℕ) → AreAsked went from runs → AreApart from runs
  are_apart [] from its = tt
  are_apart (run ∷ runs) from its = (
    its.0.begins.after,
    its.0.some,
    apart_past runs (run.first + run.granules) its.0.ends its.1,
  )

  -- No run has a granule below the number that they are asked from.
  none_below : (runs : List GranuleRun) (from : ℕ) → AreAsked went from runs → (granule : ℕ) → granule < from
      → is_of_one runs granule ≡ false
  none_below [] from its granule less = refl
  none_below (run ∷ runs) from its granule less =
      ap (λ (b : Bool). b || is_of_one runs granule)
      (before_it run.first run.granules granule (omega (arith, its.0.begins.after, less)))
      ∙ none_below runs (run.first + run.granules) its.1 granule (omega (arith, its.0.begins.after, less))

  -- From there on they have just what went.
  pub have_what_went : (runs : List GranuleRun) (from : ℕ) → AreAsked went from runs → (granule : ℕ) → from ≤ granule
      → is_of_one runs granule ≡ went granule
  have_what_went [] from its granule past = sym (its granule past)
  have_what_went (run ∷ runs) from its granule past = elim (cases_lt granule run.first) [
    | inl less ↦ ap (λ (b : Bool). b || is_of_one runs granule) (before_it run.first run.granules granule less)
        ∙ none_below runs (run.first + run.granules) its.1 granule (omega (arith, less))
        ∙ sym (its.0.begins.skipped granule past less)
    | inr begun ↦ elim (cases_lt granule (run.first + run.granules)) [
      | inl within ↦ ap (λ (b : Bool). b || is_of_one runs granule) (in_it run.first run.granules granule begun within)
          ∙ sym (its.0.each granule begun within)
      | inr done ↦ ap (λ (b : Bool). b || is_of_one runs granule) (past_it run.first run.granules granule done)
          ∙ have_what_went runs (run.first + run.granules) its.1 granule done
    ]
  ]

-- Flags of so many granules, from the first on.
is_less : (one other : ℕ) → one < other → nat_lt one other ≡ true
is_less one other less = grind (arith, nat_tests)

is_past : (one other : ℕ) → other ≤ one → nat_lt one other ≡ false
is_past one other past = grind (arith, nat_tests)

flags_had : (f : ℕ → Bool) (count granule : ℕ)
    → get_or (map f (range_with_len 0 count)) granule false ≡ (nat_lt granule count && f granule)
flags_had f count granule = elim (cases_lt granule count) [
  | inl less ↦ get_or-map-range_with_len f 0 count granule granule false less (omega arith)
      ∙ ap (λ (b : Bool). b && f granule) (sym (is_less granule count less))
  | inr past ↦ get_or_past (map f (range_with_len 0 count)) granule false
      (omega (arith, length-map-range_with_len f 0 count, past))
      ∙ ap (λ (b : Bool). b && f granule) (sym (is_past granule count past))
]

joined : (one two three : Bool) → ((one && two) && three) ≡ (one && (two && three))
joined true two three = refl
joined false two three = refl

pub went_of : (f now : ℕ → Bool) (count : ℕ) (was : List Bool) → was ≡ map f (range_with_len 0 count)
    → (granule : ℕ) → is_uncommitted was now granule ≡ (nat_lt granule count && (f granule && not (now granule)))
went_of f now count was are granule =
    ap (λ (flags : List Bool). get_or flags granule false && not (now granule)) are
    ∙ ap (λ (b : Bool). b && not (now granule)) (flags_had f count granule)
    ∙ joined (nat_lt granule count) (f granule) (not (now granule))
