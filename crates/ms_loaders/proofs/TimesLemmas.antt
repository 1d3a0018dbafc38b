-- Lists that have the same elements, by how often each stands in them: a test keeps the same of
-- both.
use Rattle.std.proofs.Common.{◌≡◌, ◌≤◌, ℕ, Bool, true, false, cond, ◌&&◌, List, [], ◌∷◌, ◌++◌, refl, sym, ap, ◌∙◌}
use Rattle.std.proofs.Common.{subst, arith}
use Rattle.std.specs.List.{sum_by, filter}
use Rattle.std.specs.List.Sorted.{IsPermutation}
use Rattle.std.proofs.lemmas.List.Sums.{sum_by-cons, sum_by-append}
use Rattle.std.proofs.lemmas.List.Sorted.{IsPermutation-refl, IsPermutation-sym, IsPermutation-trans}
use Rattle.std.proofs.lemmas.List.Sorted.{IsPermutation-cons, IsPermutation-middle, sum_by-IsPermutation}

-- A test that tells whether two are the same.
pub record Tells {X : Type 0} (same : X → X → Bool) : Type 0 where
  pub equal : (x y : X) → same x y ≡ true → x ≡ y
  pub itself : (x : X) → same x x ≡ true

abbrev one_if : Bool → ℕ
one_if b = cond b 1 0

-- How often an element stands in a list.
abbrev times : {X : Type 0} → (X → X → Bool) → X → List X → ℕ
times same x xs = sum_by (λ y. one_if (same x y)) xs

record Stands {X : Type 0} (x : X) (xs : List X) : Type 0 where
  before : List X
  after : List X
  is : xs ≡ before ++ x ∷ after

stands : {X : Type 0} (same : X → X → Bool) → Tells same → (x : X) (xs : List X) → 1 ≤ times same x xs → Stands x xs
stands same tells x [] some = absurd (omega (arith, some))
stands {X} same tells x (y ∷ xs) some =
    elim (same x y) as (λ b. same x y ≡ b → Stands x (y ∷ xs)) [
      | true ↦ λ here. record { before = []; after = xs; is = ap (λ (z : X). z ∷ xs) (sym (tells.equal x y here)) }
      | false ↦ λ past.
          let rest =
          stands same tells x xs (omega (arith, some, sum_by-cons (λ z. one_if (same x z)) y xs, ap one_if past)) in
          record { before = y ∷ rest.before; after = rest.after; is = ap (λ (l : List X). y ∷ l) rest.is }
    ] refl

-- Lists in which each stands as often have the same elements.
pub from_times : {X : Type 0} (same : X → X → Bool) → Tells same → (xs ys : List X)
    → ((x : X) → times same x xs ≡ times same x ys) → IsPermutation xs ys
from_times same tells [] [] all = IsPermutation-refl []
from_times same tells [] (y ∷ ys) all =
    absurd (omega (arith, all y, sum_by-cons (λ z. one_if (same y z)) y ys, ap one_if (tells.itself y)))
from_times {X} same tells (x ∷ xs) ys all =
    let at_ =
    stands same tells x ys
    (omega (arith, all x, sum_by-cons (λ z. one_if (same x z)) x xs, ap one_if (tells.itself x))) in
    let b = at_.before in
    let a = at_.after in
    let rest = from_times same tells xs (b ++ a) (λ z.
    let test : X → ℕ = λ y. one_if (same z y) in
    omega (
      arith,
      all z,
      sum_by-cons test x xs,
      ap (sum_by test) at_.is,
      sum_by-append test b (x ∷ a),
      sum_by-cons test x a,
      sum_by-append test b a,
    )) in
    subst (IsPermutation (x ∷ xs)) (sym at_.is)
    (IsPermutation-trans (x ∷ xs) (x ∷ (b ++ a)) (b ++ x ∷ a) (IsPermutation-cons x xs (b ++ a) rest)
    (IsPermutation-sym (b ++ x ∷ a) (x ∷ (b ++ a)) (IsPermutation-middle b x a)))

-- What passes a test.
times_kept : {X : Type 0} (same : X → X → Bool) (p : X → Bool) (x : X) (xs : List X)
    → times same x (filter p xs) ≡ sum_by (λ y. one_if (same x y && p y)) xs
times_kept same p x [] = refl
times_kept {X} same p x (y ∷ xs) =
    elim (p y) as (λ b. p y ≡ b
    → times same x (cond b (y ∷ filter p xs) (filter p xs)) ≡ sum_by (λ z. one_if (same x z && p z)) (y ∷ xs)) [
      | true ↦ λ e. omega (
        arith,
        sum_by-cons (λ z. one_if (same x z)) y (filter p xs),
        sum_by-cons (λ z. one_if (same x z && p z)) y xs,
        times_kept same p x xs,
        ap (λ b. one_if (same x y && b)) e,
        ap one_if (and_true (same x y)),
      )
      | false ↦
          λ e. omega (
            arith,
            sum_by-cons (λ z. one_if (same x z && p z)) y xs,
            times_kept same p x xs,
            ap (λ b. one_if (same x y && b)) e,
            ap one_if (and_false (same x y)),
          )
    ] refl
  where
    and_true : (b : Bool) → (b && true) ≡ b
    and_true true = refl
    and_true false = refl

    and_false : (b : Bool) → (b && false) ≡ false
    and_false true = refl
    and_false false = refl

pub kept-permuted : {X : Type 0} (same : X → X → Bool) → Tells same → (p : X → Bool) (xs ys : List X)
    → IsPermutation xs ys → IsPermutation (filter p xs) (filter p ys)
kept-permuted same tells p xs ys moved = from_times same tells (filter p xs) (filter p ys) (λ z.
    times_kept same p z xs ∙ sym (sum_by-IsPermutation (λ y. one_if (same z y && p y)) xs ys moved)
    ∙ sym (times_kept same p z ys))
