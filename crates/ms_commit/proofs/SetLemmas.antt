-- Sets as filters of the numbers below a bound: what adding and taking out a range does to them,
-- to their sizes and to their members.
use Rattle.std.proofs.Common.{◌≡◌, ◌≤◌, ◌<◌, ℕ, zero, suc, ◌+◌, ◌-◌, Bool, true, false, cond, ◌&&◌, ◌||◌, not, List, []}
use Rattle.std.proofs.Common.{◌∷◌, ◌++◌, length, refl, sym, ap, ap₂, ◌∙◌, inl, inr, arith}
use Rattle.std.specs.Prelude.{◌==◌, nat_lt, nat_le}
use Rattle.std.specs.List.{All, filter, range_with_len}
use Rattle.std.specs.List.Sorted.{IsStrictlyIncreasing}
use Rattle.std.proofs.lemmas.Bool.{cases_lt}
use Rattle.std.proofs.lemmas.Bool.Decides.{nat_tests}
use Rattle.std.proofs.lemmas.List.{append-nil, length-append}
use Rattle.std.proofs.lemmas.List.Elements.{All-filter}
use Rattle.std.proofs.lemmas.List.Filters.{length-filter_both}
use Rattle.std.proofs.lemmas.List.Folds.{list_any-append}
use Rattle.std.proofs.lemmas.List.FromFn.{length-range_with_len, get_or-range_with_len}
use Rattle.std.proofs.lemmas.List.Kept.{IsStrictlyIncreasing-filter}
use Rattle.ms_base.specs.Committed.{is_among}
use Rattle.ms_commit.specs.NumberSet.{is_in_range, with_range, without_range, count_within, count_missing, IsSetBelow}
use Rattle.ms_commit.proofs.RangeLemmas.{and_true, and_false, or_true, or_false, filter-cut, filter-filter}
use Rattle.ms_commit.proofs.RangeLemmas.{filter_agree_in, filter_all_in, filter_none_in, filter-window, is_among-filter}
use Rattle.ms_commit.proofs.RangeLemmas.{is_among-range}
use Rattle.ms_commit.proofs.CountLemmas.{length-kept}

-- A range rises.
pub IsStrictlyIncreasing-range : (a n : ℕ) → IsStrictlyIncreasing (range_with_len a n)
IsStrictlyIncreasing-range a n k h =
    let here = get_or-range_with_len a n k 0 (omega (arith, length-range_with_len a n)) in
    let next = get_or-range_with_len a n (k + 1) 0 (omega (arith, length-range_with_len a n)) in
    omega (arith, here, next)

-- A filter of the numbers below a bound is a set below it.
pub IsSetBelow-filter : (p : ℕ → Bool) (n : ℕ) → IsSetBelow n (filter p (range_with_len 0 n))
IsSetBelow-filter p n = record {
  rising = IsStrictlyIncreasing-filter p (range_with_len 0 n) (IsStrictlyIncreasing-range 0 n);
  below = All-filter p (λ k. k < n) (range_with_len 0 n) below;
}
  where
    below : All (λ k. k < n) (range_with_len 0 n)
    below k d h =
        omega (
          arith,
          length-range_with_len 0 n,
          get_or-range_with_len 0 n k d
              (omega (arith, length-range_with_len 0 n)),
        )

-- With a range added, what passes is what passed or lies in the range: where the range lies below
-- the bound, and where it is empty.
added_inside : (p : ℕ → Bool) (n first count : ℕ) → first + count ≤ n
    → with_range (filter p (range_with_len 0 n)) first count
    ≡ filter (λ k. p k || is_in_range first count k) (range_with_len 0 n)
added_inside p n first count inside =
    ap₂ (λ a b. a ++ range_with_len first count ++ b) (filter-filter p (λ k. nat_lt k first) (range_with_len 0 n)
    ∙ kept_below) (filter-filter p (λ k. nat_le (first + count) k) (range_with_len 0 n) ∙ kept_past)
    ∙ sym all_kept
  where
    whole : n ≡ first + count + (n - (first + count))
    whole = omega arith

    below : ℕ → Bool
    below k = p k && nat_lt k first

    past : ℕ → Bool
    past k = p k && nat_le (first + count) k

    either : ℕ → Bool
    either k = p k || is_in_range first count k

    kept_below : filter below (range_with_len 0 n) ≡ filter p (range_with_len 0 first)
    kept_below =
        let cut : n ≡ first + (n - first) = omega arith in
        ap (λ m. filter below (range_with_len 0 m)) cut
        ∙ filter-cut below 0 first (n - first) first (omega arith)
        ∙ ap₂ (λ a b. a ++ b)
        (filter_agree_in below p 0 first (λ k low high. and_true (p k) (nat_lt k first) (grind (arith, nat_tests))))
        (filter_none_in below first (n - first)
        (λ k low high. and_false (p k) (nat_lt k first) (grind (arith, nat_tests))))
        ∙ append-nil (filter p (range_with_len 0 first))

    kept_past : filter past (range_with_len 0 n) ≡ filter p (range_with_len (first + count) (n - (first + count)))
    kept_past =
        ap (λ m. filter past (range_with_len 0 m)) whole
        ∙ filter-cut past 0 (first + count) (n - (first + count)) (first + count) (omega arith)
        ∙ ap₂ (λ a b. a ++ b)
        (filter_none_in past 0 (first + count)
        (λ k low high. and_false (p k) (nat_le (first + count) k) (grind (arith, nat_tests))))
        (filter_agree_in past p (first + count) (n - (first + count))
        (λ k low high. and_true (p k) (nat_le (first + count) k) (grind (arith, nat_tests))))

    all_kept : filter either (range_with_len 0 n)
        ≡ filter p (range_with_len 0 first) ++ range_with_len first count
        ++ filter p (range_with_len (first + count) (n - (first + count)))
    all_kept =
        ap (λ m. filter either (range_with_len 0 m)) whole
        ∙ filter-cut either 0 (first + count) (n - (first + count)) (first + count) (omega arith)
        ∙ ap₂ (λ a b. a ++ b) (filter-cut either 0 first count first (omega arith))
        (filter_agree_in either p (first + count) (n - (first + count))
        (λ k low high. or_false (p k) (is_in_range first count k) (grind (arith, nat_tests))))
        ∙ ap₂ (λ a b. a ++ b ++ filter p (range_with_len (first + count) (n - (first + count))))
        (filter_agree_in either p 0 first
        (λ k low high. or_false (p k) (is_in_range first count k) (grind (arith, nat_tests))))
        (filter_all_in either first count
        (λ k low high. or_true (p k) (is_in_range first count k) (grind (arith, nat_tests))))

added_none : (p : ℕ → Bool) (n first : ℕ) → n ≤ first
    → with_range (filter p (range_with_len 0 n)) first 0
    ≡ filter (λ k. p k || is_in_range first 0 k) (range_with_len 0 n)
added_none p n first outside =
    ap₂ (λ a b. a ++ [] ++ b)
    (filter-filter p (λ k. nat_lt k first) (range_with_len 0 n)
    ∙ filter_agree_in (λ k. p k && nat_lt k first) p 0 n
    (λ k low high. and_true (p k) (nat_lt k first) (grind (arith, nat_tests))))
    (filter-filter p (λ k. nat_le (first + 0) k) (range_with_len 0 n)
    ∙ filter_none_in (λ k. p k && nat_le (first + 0) k) 0 n
    (λ k low high. and_false (p k) (nat_le (first + 0) k) (grind (arith, nat_tests))))
    ∙ append-nil (filter p (range_with_len 0 n) ++ [])
    ∙ append-nil (filter p (range_with_len 0 n))
    ∙ sym (filter_agree_in (λ k. p k || is_in_range first 0 k) p 0 n
    (λ k low high. or_false (p k) (is_in_range first 0 k) (grind (arith, nat_tests))))

pub with_range-filter : (p : ℕ → Bool) (n first count : ℕ) → ((k : ℕ) → first ≤ k → k < first + count → k < n)
    → with_range (filter p (range_with_len 0 n)) first count
    ≡ filter (λ k. p k || is_in_range first count k) (range_with_len 0 n)
with_range-filter p n first zero within = elim (cases_lt n first) [
  | inl outside ↦ added_none p n first (omega arith)
  | inr inside ↦ added_inside p n first 0 (omega arith)
]
with_range-filter p n first (suc count) within =
    added_inside p n first (suc count) (omega (arith, within (first + count) (omega arith) (omega arith)))

-- Each number of a set lies below a range, in it or past it.
one_of_three : (first count k : ℕ)
    → cond (nat_lt k first) 1 0 + cond (is_in_range first count k) 1 0 + cond (nat_le (first + count) k) 1 0 ≡ 1
one_of_three first count k = grind (arith, nat_tests)

in_three_parts : (members : List ℕ) (first count : ℕ)
    → length (filter (λ k. nat_lt k first) members) + length (filter (is_in_range first count) members)
    + length (filter (λ k. nat_le (first + count) k) members)
    ≡ length members
in_three_parts [] first count = refl
in_three_parts (k ∷ members) first count =
    omega (
      arith,
      length-kept (nat_lt k first) k (filter (λ k. nat_lt k first) members),
      length-kept (is_in_range first count k) k (filter (is_in_range first count) members),
      length-kept (nat_le (first + count) k) k (filter (λ k. nat_le (first + count) k) members),
      one_of_three first count k,
      in_three_parts members first count,
    )

-- A set with a range added has as many more members as the range has numbers that were none.
pub length-with_range : (members : List ℕ) (first count : ℕ)
    → length (with_range members first count) + length (filter (is_in_range first count) members)
    ≡ length members + count
length-with_range members first count =
    omega (
      arith,
      length-append (filter (λ k. nat_lt k first) members ++ range_with_len first count)
          (filter (λ k. nat_le (first + count) k) members),
      length-append (filter (λ k. nat_lt k first) members) (range_with_len first count),
      length-range_with_len first count,
      in_three_parts members first count,
    )

pub length-without_range : (members : List ℕ) (first count : ℕ)
    → length (without_range members first count) + length (filter (is_in_range first count) members) ≡ length members
length-without_range members first count =
    omega (
      arith,
      length-filter_both (is_in_range first count) (λ k. not (is_in_range first count k))
          (λ k. refl) members,
    )

-- The members of a set in a range, counted by going over the set, are those counted by going over
-- the range.
pub count_within-filter : (p : ℕ → Bool) (n first count : ℕ) → ((k : ℕ) → first ≤ k → k < first + count → k < n)
    → length (filter (is_in_range first count) (filter p (range_with_len 0 n)))
    ≡ length (filter p (range_with_len first count))
count_within-filter p n first count within = ap length (
    filter-filter p (is_in_range first count) (range_with_len 0 n)
    ∙ filter-window p first (first + count) n (λ k past from under. absurd (omega (arith, within k from under)))
    ∙ ap (λ m. filter p (range_with_len first m)) (let e : first + count - first ≡ count = omega arith in e))

-- The numbers of a range are members or not.
pub count_missing-within : (members : List ℕ) (first count : ℕ)
    → count_within members first count + count_missing members first count ≡ count
count_missing-within members first count =
    omega (
      arith,
      length-filter_both (is_among members) (λ k. not (is_among members k)) (λ k. refl)
          (range_with_len first count),
      length-range_with_len first count,
    )

-- The members after a range was added or taken out.
pub is_among-with_range : (members : List ℕ) (first count k : ℕ)
    → is_among (with_range members first count) k ≡ (is_among members k || is_in_range first count k)
is_among-with_range members first count k =
    list_any-append (λ other. other == k) (filter (λ other. nat_lt other first) members ++ range_with_len first count)
    (filter (λ other. nat_le (first + count) other) members)
    ∙ ap₂ (λ a b. a || b)
    (list_any-append (λ other. other == k) (filter (λ other. nat_lt other first) members) (range_with_len first count)
    ∙ ap₂ (λ a b. a || b) (is_among-filter (λ other. nat_lt other first) members k) (is_among-range first count k))
    (is_among-filter (λ other. nat_le (first + count) other) members k)
    ∙ joined (is_among members k)
  where
    joined : (member : Bool)
        → ((nat_lt k first && member) || is_in_range first count k || (nat_le (first + count) k && member))
        ≡ (member || is_in_range first count k)
    joined true = grind (arith, nat_tests)
    joined false = grind (arith, nat_tests)

pub is_among-without_range : (members : List ℕ) (first count k : ℕ)
    → is_among (without_range members first count) k ≡ (not (is_in_range first count k) && is_among members k)
is_among-without_range members first count k = is_among-filter (λ other. not (is_in_range first count other)) members k
