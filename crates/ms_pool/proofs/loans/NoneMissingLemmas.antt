-- Where none of a range is missing, the range adds nothing to a set: a front that is committed
-- already leaves the nodes as they are. `commit` uses this.
use Rattle.std.proofs.Common.{◌≡◌, ◌<◌, ◌≤◌, ℕ, zero, suc, ◌+◌, Bool, true, false, cond, not, ◌&&◌, ◌||◌, List, [], ◌∷◌}
use Rattle.std.proofs.Common.{◌==◌, length, refl, sym, ap, ◌∙◌, inl, inr, arith}
use Rattle.std.specs.List.{filter, range_with_len, sum}
use Rattle.std.specs.List.Sorted.{IsStrictlyIncreasing}
use Rattle.std.proofs.lemmas.Bool.{cases_eq, false≢true}
use Rattle.std.proofs.lemmas.Bool.Decides.{nat_tests}
use Rattle.std.proofs.lemmas.List.Kept.{IsStrictlyIncreasing-filter}
use Rattle.std.proofs.lemmas.List.Sums.{sum_by-cons}
use Rattle.std.proofs.lemmas.Map.Keys.{sorted_from_strictly_increasing}
use Rattle.ms_base.specs.Committed.{is_among}
use Rattle.ms_commit.specs.NumberSet.{count_missing, is_in_range, with_range}
use Rattle.ms_commit.proofs.RangeLemmas.{filter_agree_in, is_among-filter, is_among-range}
use Rattle.ms_commit.proofs.SameLemmas.{same_sets}
use Rattle.ms_commit.proofs.SetLemmas.{IsStrictlyIncreasing-range, with_range-filter}
use Rattle.ms_pool.proofs.loans.OpenLemmas.{from_range, within_range}

-- No member of a list is above its sum.
below_sum : (members : List ℕ) (k : ℕ) → is_among members k ≡ true → k ≤ sum members
below_sum [] k there = absurd (false≢true there)
below_sum (x ∷ members) k there = elim (cases_eq x k) [
  | inl here ↦ omega (arith, sum_by-cons (λ (n : ℕ). n) x members, here)
  | inr apart ↦
      omega (
        arith,
        sum_by-cons (λ (n : ℕ). n) x members,
        below_sum members k (ap (λ b. b || is_among members k) (sym (other_number x k apart)) ∙ there),
      )
]
  where
    other_number : (x k : ℕ) → (x ≡ k → ⊥) → (x == k) ≡ false
    other_number x k apart = grind (arith, nat_tests)

-- Where none of a range fails a test, each passes.
each_passes : (p : ℕ → Bool) (first count : ℕ) → length (filter (λ n. not (p n)) (range_with_len first count)) ≡ 0
    → (k : ℕ) → first ≤ k → k < first + count → p k ≡ true
each_passes p first zero none k low high = absurd (omega (arith, low, high))
each_passes p first (suc count) none k low high =
    passes (p first) refl none (λ later fewer. each_passes p (first + 1) count fewer k later (omega (arith, high)))
  where
    rest : List ℕ
    rest = filter (λ n. not (p n)) (range_with_len (first + 1) count)

    some : (n : ℕ) → suc n ≡ 0 → ⊥
    some n e = omega (arith, e)

    passes : (b : Bool) → p first ≡ b → length (cond (not b) (first ∷ rest) rest) ≡ 0
        → (first + 1 ≤ k → length rest ≡ 0 → p k ≡ true) → p k ≡ true
    passes false e none more = absurd (some (length rest) none)
    passes true e none more = elim (cases_eq first k) [
      | inl here ↦ ap p (sym here) ∙ e
      | inr later ↦ more (omega (arith, low, later)) none
    ]

-- A test that follows from another adds nothing to it, and one that another implies takes nothing
-- away.
or_implied : (a b : Bool) → (b ≡ true → a ≡ true) → (a || b) ≡ a
or_implied true b h = refl
or_implied false true h = sym (h refl)
or_implied false false h = refl

and_implied : (a b : Bool) → (a ≡ true → b ≡ true) → (a && b) ≡ a
and_implied true b h = h refl
and_implied false b h = refl

-- A range of which none is missing adds nothing to a set.
pub with_none_missing : (members : List ℕ) (first count : ℕ) → IsStrictlyIncreasing members
    → count_missing members first count ≡ 0 → with_range members first count ≡ members
with_none_missing members first count rise none =
    ap (λ l. with_range l first count) (sym whole)
    ∙ with_range-filter (is_among members) n first count
    (λ k low high. omega (arith, below_sum members k (there k low high)))
    ∙ filter_agree_in (λ k. is_among members k || is_in_range first count k) (is_among members) 0 n
    (λ k _ _. or_implied (is_among members k) (is_in_range first count k)
    (λ e. there k (from_range first count k e) (within_range first count k e)))
    ∙ whole
  where
    n : ℕ
    n = sum members + 1

    there : (k : ℕ) → first ≤ k → k < first + count → is_among members k ≡ true
    there = each_passes (is_among members) first count none

    below : (n k : ℕ) → k < n → is_in_range 0 n k ≡ true
    below n k h = grind (arith, nat_tests)

    whole : filter (is_among members) (range_with_len 0 n) ≡ members
    whole = same_sets (filter (is_among members) (range_with_len 0 n)) members
        (sorted_from_strictly_increasing (filter (is_among members) (range_with_len 0 n))
        (IsStrictlyIncreasing-filter (is_among members) (range_with_len 0 n) (IsStrictlyIncreasing-range 0 n)))
        (sorted_from_strictly_increasing members rise)
        (λ k. is_among-filter (is_among members) (range_with_len 0 n) k
        ∙ ap (λ b. is_among members k && b) (is_among-range 0 n k)
        ∙ and_implied (is_among members k) (is_in_range 0 n k)
        (λ e. below n k (omega (arith, below_sum members k e))))
