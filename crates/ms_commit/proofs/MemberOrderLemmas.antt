-- Sets in rising order: the position of a new number, and the lowest number that is missing.
use Rattle.std.proofs.Common.{◌≡◌, ◌≤◌, ◌<◌, ℕ, zero, suc, ◌+◌, ◌-◌, Bool, true, false, cond, ◌||◌, not, List, ◌∷◌}
use Rattle.std.proofs.Common.{length, Some, refl, sym, ap, ◌∙◌, inl, inr, arith}
use Rattle.std.specs.Option.{unwrap_or}
use Rattle.std.specs.Ordering.{nat_cmp, match_ordering}
use Rattle.std.specs.declared.cmp.Ordering.TheVariants.{Less, Equal, Greater}
use Rattle.std.specs.BTreeSet.{insert_key}
use Rattle.std.specs.List.{find, filter, range_with_len}
use Rattle.std.proofs.lemmas.Bool.{cases_eq}
use Rattle.std.proofs.lemmas.Bool.Decides.{nat_tests}
use Rattle.std.proofs.lemmas.List.{length-append}
use Rattle.std.proofs.lemmas.List.FromFn.{length-range_with_len}
use Rattle.ms_base.specs.PoolSteps.Pick.{lowest_unreserved}
use Rattle.ms_base.specs.Committed.{is_among}
use Rattle.ms_commit.specs.NumberSet.{is_in_range}
use Rattle.ms_commit.proofs.RangeLemmas.{or_true, or_false, filter-cut, filter_agree_in, filter_all_in}

-- A number is put before what is above it, where it stands, or after what is below it.
insert_front : (p : ℕ → Bool) (low from n : ℕ) → low < from
    → insert_key nat_cmp (filter p (range_with_len from n)) low ≡ low ∷ filter p (range_with_len from n)
insert_front p low from zero h = refl
insert_front p low from (suc n) h =
    elim (p from) as (λ b. insert_key nat_cmp (cond b (from ∷ rest) rest) low ≡ low ∷ cond b (from ∷ rest) rest) [
      | true ↦
          ap (λ o. match_ordering o (low ∷ from ∷ rest) (from ∷ rest) (from ∷ insert_key nat_cmp rest low))
          (is_less low from h)
      | false ↦ insert_front p low (from + 1) n (omega arith)
    ]
  where
    rest : List ℕ
    rest = filter p (range_with_len (from + 1) n)

    is_less : (a b : ℕ) → a < b → nat_cmp a b ≡ Less
    is_less a b h = grind (arith, nat_tests)

insert_here : (b : Bool) (number : ℕ) (rest : List ℕ) → insert_key nat_cmp rest number ≡ number ∷ rest
    → insert_key nat_cmp (cond b (number ∷ rest) rest) number ≡ number ∷ rest
insert_here true number rest e =
    ap (λ o. match_ordering o (number ∷ number ∷ rest) (number ∷ rest) (number ∷ insert_key nat_cmp rest number))
    (is_equal number)
  where
    is_equal : (a : ℕ) → nat_cmp a a ≡ Equal
    is_equal a = grind (arith, nat_tests)
insert_here false number rest e = e

insert_later : (b : Bool) (from number : ℕ) (rest more : List ℕ) → from < number → insert_key nat_cmp rest number ≡ more
    → insert_key nat_cmp (cond b (from ∷ rest) rest) number ≡ cond b (from ∷ more) more
insert_later true from number rest more h e =
    ap (λ o. match_ordering o (number ∷ from ∷ rest) (from ∷ rest) (from ∷ insert_key nat_cmp rest number))
    (is_greater from number h)
    ∙ ap (λ later. from ∷ later) e
  where
    is_greater : (a b : ℕ) → a < b → nat_cmp b a ≡ Greater
    is_greater a b h = grind (arith, nat_tests)
insert_later false from number rest more h e = e

-- With a number put in its place, what passes is what passed or is the number.
pub insert_key-filter : (p : ℕ → Bool) (number from n : ℕ) → from ≤ number → number < from + n
    → insert_key nat_cmp (filter p (range_with_len from n)) number
    ≡ filter (λ k. p k || is_in_range number 1 k) (range_with_len from n)
insert_key-filter p number from zero low high = absurd (omega arith)
insert_key-filter p number from (suc n) low high = elim (cases_eq from number) [
  | inl here ↦
      ap (λ k. insert_key nat_cmp (cond (p from) (k ∷ rest) rest) number) here
      ∙ insert_here (p from) number rest (insert_front p number (from + 1) n (omega arith))
      ∙ ap (λ k. k ∷ rest) (sym here)
      ∙ ap (λ later. from ∷ later)
      (sym (filter_agree_in either p (from + 1) n
      (λ k l h. or_false (p k) (is_in_range number 1 k) (grind (arith, nat_tests)))))
      ∙ ap (λ b. cond b (from ∷ more) more)
      (sym (or_true (p from) (is_in_range number 1 from) (grind (arith, nat_tests))))
  | inr later ↦
      insert_later (p from) from number rest more (omega arith)
      (insert_key-filter p number (from + 1) n (omega arith) (omega arith))
      ∙ ap (λ b. cond b (from ∷ more) more)
      (sym (or_false (p from) (is_in_range number 1 from) (grind (arith, nat_tests))))
]
  where
    either : ℕ → Bool
    either k = p k || is_in_range number 1 k

    more : List ℕ
    more = filter either (range_with_len (from + 1) n)

    rest : List ℕ
    rest = filter p (range_with_len (from + 1) n)

-- A search over a range finds the number before which nothing passes.
find_first : (p : ℕ → Bool) (from n number : ℕ) → from ≤ number → number < from + n → p number ≡ true
    → ((k : ℕ) → k < number → p k ≡ false) → find p (range_with_len from n) ≡ Some number
find_first p from zero number low high passes none = absurd (omega arith)
find_first p from (suc n) number low high passes none = elim (cases_eq from number) [
  | inl here ↦ ap (λ b. cond b (Some from) (find p (range_with_len (from + 1) n))) (ap p here ∙ passes) ∙ ap Some here
  | inr later ↦
      ap (λ b. cond b (Some from) (find p (range_with_len (from + 1) n))) (none from (omega arith))
      ∙ find_first p (from + 1) n number (omega arith) (omega arith) passes none
]

pub lowest_unreserved-is : (members : List ℕ) (number : ℕ) → is_among members number ≡ false
    → ((k : ℕ) → k < number → is_among members k ≡ true)
    → number ≤ length members → lowest_unreserved members ≡ number
lowest_unreserved-is members number missing below within =
    ap (λ found. unwrap_or found 0)
    (find_first (λ k. not (is_among members k)) 0 (length members + 1) number (omega arith) (omega arith)
    (ap not missing) (λ k under. ap not (below k under)))

-- Where all numbers below one pass, as many are kept at least.
pub length_from_full : (p : ℕ → Bool) (number n : ℕ) → number ≤ n → ((k : ℕ) → k < number → p k ≡ true)
    → number ≤ length (filter p (range_with_len 0 n))
length_from_full p number n within full =
    let whole : n ≡ number + (n - number) = omega arith in
    let cut = ap (λ m. filter p (range_with_len 0 m)) whole ∙ filter-cut p 0 number (n - number) number (omega arith) in
    omega (
      arith,
      ap length cut,
      length-append (filter p (range_with_len 0 number)) (filter p (range_with_len number (n - number))),
      ap length (filter_all_in p 0 number (λ k low high. full k (omega arith))),
      length-range_with_len 0 number,
    )
