-- Two lists whose parts, by a number of each element, are the same have the same elements. That an
-- order of a phase's lines has all of them uses this.
use Rattle.std.proofs.Common.{◌≡◌, ◌<◌, ◌==◌, ℕ, Bool, true, false, cond, List, [], ◌∷◌, ◌++◌, refl, sym, ap, ◌∙◌, subst, append_assoc, eq-eqb}
use Rattle.std.proofs.lemmas.Bool.{eqb-true}
use Rattle.std.specs.List.{filter}
use Rattle.std.specs.List.Sorted.{IsPermutation}
use Rattle.std.proofs.lemmas.List.Elements.{filter-append}
use Rattle.std.proofs.lemmas.List.Sorted.{IsPermutation-refl, IsPermutation-trans, IsPermutation-cons, IsPermutation-to_front}
use Rattle.std.proofs.lemmas.List.Sorted.{IsPermutation-append_left}

-- The first element that passes, what stands before it, and what behind.
record IsFirst {X : Type 0} (test : X → Bool) (xs : List X) (y : X) (rest : List X) : Type 0 where
  before : List X
  behind : List X
  is : xs ≡ before ++ y ∷ behind
  none : filter test before ≡ []
  others : filter test behind ≡ rest
  passes : test y ≡ true

first_of : {X : Type 0} (test : X → Bool) (xs : List X) (y : X) (rest : List X) → filter test xs ≡ y ∷ rest
    → IsFirst test xs y rest
first_of test [] y rest found = absurd (cc)
first_of {X} test (x ∷ xs) y rest found =
    elim (test x) as (λ b. test x ≡ b → cond b (x ∷ filter test xs) (filter test xs) ≡ y ∷ rest
    → IsFirst test (x ∷ xs) y rest) [
      | true ↦ λ is its. let same : x ≡ y = cc in let more : filter test xs ≡ rest = cc in record {
        before = [];
        behind = xs;
        is = ap (λ (z : X). z ∷ xs) same;
        none = refl;
        others = more;
        passes = subst (λ (z : X). test z ≡ true) same is;
      }
      | false ↦ λ is its. let later = first_of test xs y rest its in record {
        before = x ∷ later.before;
        behind = later.behind;
        is = ap (λ (l : List X). x ∷ l) later.is;
        none = rw is later.none;
        others = later.others;
        passes = later.passes;
      }
    ] refl found

no_more : {X : Type 0} (b : Bool) (y : X) (ys : List X) → b ≡ true → cond b (y ∷ ys) ys ≡ [] → ⊥
no_more true y ys is none = cc
no_more false y ys is none = cc

kept : {X : Type 0} (b : Bool) (y : X) (ys : List X) → b ≡ true → cond b (y ∷ ys) ys ≡ y ∷ ys
kept true y ys is = refl
kept false y ys is = absurd (cc)

module _ {X : Type 0} (part : X → ℕ) (count : ℕ) (within : (x : X) → part x < count) where
  pub same_elements : (xs ys : List X)
      → ((at : ℕ) → at < count → filter (λ (x : X). part x == at) xs ≡ filter (λ (x : X). part x == at) ys)
      → IsPermutation xs ys
  same_elements [] [] same = IsPermutation-refl []
  same_elements (x ∷ xs) [] same =
      absurd (no_more (part x == part x) x (filter (λ (z : X). part z == part x) xs) (eq-eqb (part x) (part x) refl)
      (same (part x) (within x)))
  same_elements xs (y ∷ ys) same =
      subst (λ (l : List X). IsPermutation l (y ∷ ys)) (sym first.is)
      (IsPermutation-trans (first.before ++ y ∷ first.behind) (y ∷ first.before ++ first.behind) (y ∷ ys)
      (subst (λ (l : List X). IsPermutation l (y ∷ first.before ++ first.behind))
      (append_assoc first.before (y ∷ []) first.behind)
      (IsPermutation-append_left first.behind (first.before ++ y ∷ []) (y ∷ first.before)
      (IsPermutation-to_front first.before y)))
      (IsPermutation-cons y (first.before ++ first.behind) ys
      (same_elements (first.before ++ first.behind) ys others)))
    where
      first : IsFirst (λ (x : X). part x == part y) xs y (filter (λ (x : X). part x == part y) ys)
      first = first_of (λ (x : X). part x == part y) xs y (filter (λ (x : X). part x == part y) ys)
          (same (part y) (within y)
          ∙ kept (part y == part y) y (filter (λ (x : X). part x == part y) ys) (eq-eqb (part y) (part y) refl))

      split : (at : ℕ) → filter (λ (x : X). part x == at) xs
          ≡ filter (λ (x : X). part x == at) first.before
          ++ cond (part y == at) (y ∷ filter (λ (x : X). part x == at) first.behind)
          (filter (λ (x : X). part x == at) first.behind)
      split at = ap (filter (λ (x : X). part x == at)) first.is
          ∙ filter-append (λ (x : X). part x == at) first.before (y ∷ first.behind)

      others : (at : ℕ) → at < count
          → filter (λ (x : X). part x == at) (first.before ++ first.behind) ≡ filter (λ (x : X). part x == at) ys
      others at less = filter-append (λ (x : X). part x == at) first.before first.behind ∙ go (part y == at) refl
        where
          go : (b : Bool) → (part y == at) ≡ b
              → filter (λ (x : X). part x == at) first.before ++ filter (λ (x : X). part x == at) first.behind
              ≡ filter (λ (x : X). part x == at) ys
          go true e = subst (λ (n : ℕ). filter (λ (x : X). part x == n) first.before
              ++ filter (λ (x : X). part x == n) first.behind ≡ filter (λ (x : X). part x == n) ys)
              (eqb-true (part y) at e)
              (ap (λ (l : List X). l ++ filter (λ (x : X). part x == part y) first.behind) first.none ∙ first.others)
          go false e =
              sym (split at
              ∙ ap (λ (b : Bool). filter (λ (x : X). part x == at) first.before
              ++ cond b (y ∷ filter (λ (x : X). part x == at) first.behind) (filter (λ (x : X). part x == at) first.behind))
              e)
              ∙ same at less
              ∙ ap (λ (b : Bool). cond b (y ∷ filter (λ (x : X). part x == at) ys) (filter (λ (x : X). part x == at) ys)) e
