-- Words of contents of which one is set, or all are 0.
use Rattle.std.proofs.Common.{◌≡◌, ℕ, zero, suc, true, ◌&&◌, Some, List, [], ◌∷◌, replicate}
use Rattle.std.proofs.Common.{refl, ap, arith}
use Rattle.std.specs.Prelude.{◌==◌, slice_get, slice_set}

-- A word that was set, and one beside it.
pub get_set_same : (xs : List ℕ) (i v w : ℕ) → slice_get (slice_set xs i v) i ≡ Some w → w ≡ v
get_set_same [] i v w e = absurd (cc)
get_set_same (x ∷ xs) zero v w e = cc
get_set_same (x ∷ xs) (suc i) v w e = get_set_same xs i v w e

pub get_set_other : (xs : List ℕ) (i j v : ℕ) → (i ≡ j → ⊥) → slice_get (slice_set xs i v) j ≡ slice_get xs j
get_set_other [] i j v differ = refl
get_set_other (x ∷ xs) zero zero v differ = absurd (differ refl)
get_set_other (x ∷ xs) zero (suc j) v differ = refl
get_set_other (x ∷ xs) (suc i) zero v differ = refl
get_set_other (x ∷ xs) (suc i) (suc j) v differ = get_set_other xs i j v (λ e. differ (ap suc e))

pub get_zero : (n i w : ℕ) → slice_get (replicate n 0) i ≡ Some w → w ≡ 0
get_zero zero i w e = absurd (cc)
get_zero (suc n) zero w e = cc
get_zero (suc n) (suc i) w e = get_zero n i w e

-- The names that a request has are not those of the word, where it leaves the word.
pub all_same : (a b c : ℕ) → ((a == a) && (b == b) && (c == c)) ≡ true
all_same a b c = rw (same a, same b, same c) refl
  where
    same : (n : ℕ) → (n == n) ≡ true
    same n = grind arith

pub same_one : (a : ℕ) → (a == a) ≡ true
same_one a = grind arith

pub both_same : (a b : ℕ) → ((a == a) && (b == b)) ≡ true
both_same a b = rw (same_one a, same_one b) refl
