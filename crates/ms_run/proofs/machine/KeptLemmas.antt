-- An order that keeps the elements of each position keeps those of each worker, where all of a
-- worker's are at one position. Used for the order of a phase's lines.
use Rattle.std.proofs.Common.{◌≡◌, ◌≤◌, ◌<◌, ◌==◌, ◌||◌, ℕ, Bool, true, false, not, cond, List, [], ◌∷◌, refl, sym, ap}
use Rattle.std.proofs.Common.{◌∙◌, arith, eq-eqb}
use Rattle.std.specs.List.{AllByRecursion, filter, list_any}
use Rattle.std.specs.List.Sorted.{IsPermutation}
use Rattle.std.proofs.lemmas.Bool.{eqb-true, or_parts}
use Rattle.std.proofs.lemmas.Bool.Decides.{nat_tests}
use Rattle.std.proofs.lemmas.List.Sorted.{list_any-IsPermutation}
use native.Mathlib.Decide.{dec_lt}

module _ {X : Type 0} (position worker : X → ℕ) (share : ℕ → ℕ) where
  -- The element is at the position of its worker.
  abbrev goes : X → Bool
  goes x = position x == share (worker x)

  abbrev strays : X → Bool
  strays x = not (goes x)

  none_stray : (xs : List X) → AllByRecursion (λ (x : X). position x ≡ share (worker x)) xs → list_any strays xs ≡ false
  none_stray [] all = refl
  none_stray (x ∷ xs) all =
      ap (λ b. not b || list_any strays xs) (eq-eqb (position x) (share (worker x)) all.0) ∙ none_stray xs all.1

  -- Of those at the position of a worker the worker's are all that it has.
  through : (one : ℕ) (xs : List X) → list_any strays xs ≡ false
      → filter (λ (x : X). worker x == one) (filter (λ (x : X). position x == share one) xs)
      ≡ filter (λ (x : X). worker x == one) xs
  through one [] none = refl
  through one (x ∷ xs) none =
      by_test (position x == share one) (worker x == one) (goes x) refl refl refl (through one xs) none
    where
      mine : List X
      mine = filter (λ (x : X). worker x == one) xs

      there : List X
      there = filter (λ (x : X). position x == share one) xs

      all_there : (w p s : ℕ) → (w == one) ≡ true → (p == share w) ≡ true → p ≡ share one
      all_there w p s is goes = eqb-true p (share w) goes ∙ ap share (eqb-true w one is)

      by_test : (p w g : Bool) → (position x == share one) ≡ p → (worker x == one) ≡ w → goes x ≡ g
          → (list_any strays xs ≡ false → filter (λ (x : X). worker x == one) there ≡ mine)
          → (not g || list_any strays xs) ≡ false
          → filter (λ (x : X). worker x == one) (cond p (x ∷ there) there) ≡ cond w (x ∷ mine) mine
      by_test true true g at is its rest none =
          rw is (ap (λ (l : List X). x ∷ l) (rest (or_parts (not g) (list_any strays xs) none).1))
      by_test true false g at is its rest none = rw is (rest (or_parts (not g) (list_any strays xs) none).1)
      by_test false true true at is its rest none =
          absurd (let e = eq-eqb (position x) (share one) (all_there (worker x) (position x) (share one) is its) in cc)
      by_test false false true at is its rest none = rest none
      by_test false w false at is its rest none = absurd (cc)

  pub kept_by_worker : (order said : List X) → IsPermutation order said
      → AllByRecursion (λ (x : X). position x ≡ share (worker x)) said
      → ((at : ℕ) → filter (λ (x : X). position x == at) order ≡ filter (λ (x : X). position x == at) said)
      → (one : ℕ) → filter (λ (x : X). worker x == one) order ≡ filter (λ (x : X). worker x == one) said
  kept_by_worker order said permutes all keeps one =
      sym (through one order (list_any-IsPermutation strays order said permutes ∙ none_stray said all))
      ∙ ap (filter (λ (x : X). worker x == one)) (keeps (share one)) ∙ through one said (none_stray said all)

-- Past all positions nothing is kept.
none_past : {X : Type 0} (position : X → ℕ) (count at : ℕ) → ((x : X) → position x < count) → count ≤ at → (xs : List X)
    → filter (λ (x : X). position x == at) xs ≡ []
none_past position count at within past [] = refl
none_past {X} position count at within past (x ∷ xs) =
    let less = within x in
    let away : (position x == at) ≡ false = grind (arith, nat_tests) in
    rw away (none_past position count at within past xs)

pub kept_all : {X : Type 0} (position : X → ℕ) (count : ℕ) (order said : List X) → ((x : X) → position x < count)
    → ((at : ℕ) → at < count → filter (λ (x : X). position x == at) order ≡ filter (λ (x : X). position x == at) said)
    → (at : ℕ) → filter (λ (x : X). position x == at) order ≡ filter (λ (x : X). position x == at) said
kept_all {X} position count order said within keeps at = by_test (dec_lt at count)
  where
    by_test : Dec (at < count) → filter (λ (x : X). position x == at) order ≡ filter (λ (x : X). position x == at) said
    by_test (yes less) = keeps at less
    by_test (no more) = none_past position count at within (past more) order ∙ sym (none_past position count at within (past more) said)
      where
        past : ((at < count) → ⊥) → count ≤ at
        past more = omega (arith, more)
