-- Runs that are apart stay so in another order: they are where the pairs that meet, counted with
-- each run beside itself, are no more than the runs that meet themselves.
use Rattle.std.proofs.Common.{◌≡◌, ◌≤◌, ℕ, ◌+◌, Bool, true, false, cond, not, List, [], ◌∷◌, refl, sym, ap, ◌∙◌, arith}
use Rattle.std.specs.List.{sum_by}
use Rattle.std.specs.List.Sorted.{IsPermutation}
use Rattle.std.proofs.lemmas.List.Sorted.{sum_by-IsPermutation}
use Rattle.std.proofs.lemmas.Bool.{and_parts, and_from, or_parts, or_from, not-true, not_from_false}
use Rattle.std.proofs.lemmas.List.Sums.{sum_by-cons}
use Rattle.ms_base.specs.Interval.{meet, meets_any, are_apart}
use Rattle.ms_base.proofs.runs.ApartLemmas.{meet_turned}

-- A test as a number.
abbrev pub one_if : Bool → ℕ
one_if b = cond b 1 0

-- Whether two runs meet, as a number.
abbrev pair : ℕ × ℕ → ℕ × ℕ → ℕ
pair run other = one_if (meet run.0 run.1 other.0 other.1)

-- How many of the runs a run meets; how many pairs meet; and how many runs meet themselves.
abbrev meeting : List (ℕ × ℕ) → ℕ × ℕ → ℕ
meeting runs run = sum_by (pair run) runs

pairs : List (ℕ × ℕ) → List (ℕ × ℕ) → ℕ
pairs runs others = sum_by (meeting runs) others

abbrev themselves : List (ℕ × ℕ) → ℕ
themselves runs = sum_by (λ run. pair run run) runs

-- What pairs there are with one run more.
sum_of_two : {X : Type 0} (f g : X → ℕ) (xs : List X) → sum_by (λ x. f x + g x) xs ≡ sum_by f xs + sum_by g xs
sum_of_two f g [] = refl
sum_of_two f g (x ∷ xs) =
    omega (arith, sum_by-cons (λ y. f y + g y) x xs, sum_by-cons f x xs, sum_by-cons g x xs, sum_of_two f g xs)

sum_agree : {X : Type 0} (f g : X → ℕ) → ((x : X) → f x ≡ g x) → (xs : List X) → sum_by f xs ≡ sum_by g xs
sum_agree f g same [] = refl
sum_agree f g same (x ∷ xs) = omega (arith, sum_by-cons f x xs, sum_by-cons g x xs, same x, sum_agree f g same xs)

turned : (run : ℕ × ℕ) (runs : List (ℕ × ℕ)) → sum_by (λ other. pair other run) runs ≡ meeting runs run
turned run runs =
    sum_agree (λ other. pair other run) (pair run) (λ other. ap one_if (meet_turned other.0 other.1 run.0 run.1)) runs

pairs_with : (run : ℕ × ℕ) (runs : List (ℕ × ℕ))
    → pairs (run ∷ runs) (run ∷ runs) ≡ pair run run + (meeting runs run + meeting runs run) + pairs runs runs
unfolding pairs
pairs_with run runs = omega (
  arith,
  sum_by-cons (meeting (run ∷ runs)) run runs,
  sum_by-cons (pair run) run runs,
  sum_agree (meeting (run ∷ runs)) (λ other. pair other run + meeting runs other)
      (λ other. sum_by-cons (pair other) run runs) runs,
  sum_of_two (λ other. pair other run) (meeting runs) runs,
  turned run runs,
)

-- Where a run meets none, and where it meets one.
none_met : (run : ℕ × ℕ) (runs : List (ℕ × ℕ)) → meets_any run runs ≡ false → meeting runs run ≡ 0
none_met run [] clear = refl
none_met run (other ∷ runs) clear =
    let both = or_parts (meet run.0 run.1 other.0 other.1) (meets_any run runs) clear in
    omega (arith, sum_by-cons (pair run) other runs, ap one_if both.0, none_met run runs both.1)

none_counted : (run : ℕ × ℕ) (runs : List (ℕ × ℕ)) → meeting runs run ≡ 0 → meets_any run runs ≡ false
none_counted run [] none = refl
none_counted run (other ∷ runs) none =
    or_from (meet run.0 run.1 other.0 other.1) (meets_any run runs)
    (not_one (meet run.0 run.1 other.0 other.1) (omega (arith, sum_by-cons (pair run) other runs, none)))
    (none_counted run runs (omega (arith, sum_by-cons (pair run) other runs, none)))
  where
    not_one : (b : Bool) → one_if b ≡ 0 → b ≡ false
    not_one true e = absurd (omega (arith, e))
    not_one false e = refl

-- Runs are apart exactly where each meets at most itself.
no_fewer : (runs : List (ℕ × ℕ)) → themselves runs ≤ pairs runs runs
unfolding pairs
no_fewer [] = omega arith
no_fewer (run ∷ runs) = omega (arith, sum_by-cons (λ one. pair one one) run runs, pairs_with run runs, no_fewer runs)

counted : (runs : List (ℕ × ℕ)) → are_apart runs ≡ true → pairs runs runs ≡ themselves runs
unfolding pairs
counted [] apart = refl
counted (run ∷ runs) apart =
    let both = and_parts (not (meets_any run runs)) (are_apart runs) apart in
    omega (
      arith,
      sum_by-cons (λ one. pair one one) run runs,
      pairs_with run runs,
      none_met run runs (not-true (meets_any run runs) both.0),
      counted runs both.1,
    )

from_count : (runs : List (ℕ × ℕ)) → pairs runs runs ≡ themselves runs → are_apart runs ≡ true
from_count [] same = refl
from_count (run ∷ runs) same =
    and_from (not (meets_any run runs)) (are_apart runs)
    (not_from_false (meets_any run runs)
    (none_counted run runs
    (omega (arith, sum_by-cons (λ one. pair one one) run runs, pairs_with run runs, no_fewer runs, same))))
    (from_count runs
    (omega (arith, sum_by-cons (λ one. pair one one) run runs, pairs_with run runs, no_fewer runs, same)))

-- Runs that are apart are so in another order.
pub apart-permuted : (runs others : List (ℕ × ℕ)) → IsPermutation runs others → are_apart runs ≡ true
    → are_apart others ≡ true
unfolding pairs
apart-permuted runs others moved apart = from_count others
    (sum_agree (meeting others) (meeting runs) (λ run. sum_by-IsPermutation (pair run) runs others moved) others
    ∙ sum_by-IsPermutation (meeting runs) runs others moved ∙ counted runs apart
    ∙ sym (sum_by-IsPermutation (λ run. pair run run) runs others moved))
