-- What filters keep of ranges of numbers: the form in which a mask's members are written, and
-- every set in rising order can be.
use Rattle.std.proofs.Common.{◌≡◌, ◌≤◌, ◌<◌, ℕ, zero, suc, ◌+◌, ◌-◌, Bool, true, false, cond, ◌&&◌, ◌||◌, List, [], ◌∷◌}
use Rattle.std.proofs.Common.{◌++◌, length, refl, sym, ap, ap₂, ◌∙◌, inl, inr, arith}
use Rattle.std.specs.Prelude.{◌==◌, nat_lt, nat_le}
use Rattle.std.specs.List.{filter, range_with_len}
use Rattle.std.proofs.lemmas.Bool.{cases_lt}
use Rattle.std.proofs.lemmas.Bool.Decides.{nat_tests}
use Rattle.std.proofs.lemmas.List.{append-nil}
use Rattle.std.proofs.lemmas.List.Elements.{filter-append}
use Rattle.std.proofs.lemmas.List.FromFn.{length-range_with_len}
use Rattle.std.proofs.lemmas.List.Sums.{length-filter, count_by-le-length}
use Rattle.std.proofs.lemmas.Map.Views.{any-filter_same}
use Rattle.ms_base.specs.Committed.{is_among}
use Rattle.ms_commit.specs.NumberSet.{is_in_range}

-- A range is a first part and the rest.
pub range-split : (a m n : ℕ) → range_with_len a (m + n) ≡ range_with_len a m ++ range_with_len (a + m) n
range-split a zero n =
    let e : 0 + n ≡ n = omega arith in
    let f : a ≡ a + 0 = omega arith in
    ap (range_with_len a) e ∙ ap (λ b. range_with_len b n) f
range-split a (suc m) n =
    let e : suc m + n ≡ suc (m + n) = omega arith in let f : a + 1 + m ≡ a + suc m = omega arith in
    ap (range_with_len a) e ∙ ap (λ rest. a ∷ rest) (range-split (a + 1) m n)
    ∙ ap (λ b. a ∷ range_with_len (a + 1) m ++ range_with_len b n) f

-- Two tests that agree on a range keep the same of it.
pub filter_agree_in : (p q : ℕ → Bool) (a n : ℕ) → ((k : ℕ) → a ≤ k → k < a + n → p k ≡ q k)
    → filter p (range_with_len a n) ≡ filter q (range_with_len a n)
filter_agree_in p q a zero agree = refl
filter_agree_in p q a (suc n) agree =
    ap (λ b. cond b (a ∷ filter p (range_with_len (a + 1) n)) (filter p (range_with_len (a + 1) n)))
    (agree a (omega arith) (omega arith))
    ∙ ap (λ rest. cond (q a) (a ∷ rest) rest)
    (filter_agree_in p q (a + 1) n (λ k low high. agree k (omega arith) (omega arith)))

keep_all : {X : Type 0} (xs : List X) → filter (λ _. true) xs ≡ xs
keep_all [] = refl
keep_all (x ∷ xs) = ap (λ rest. x ∷ rest) (keep_all xs)

keep_none : {X : Type 0} (xs : List X) → filter (λ _. false) xs ≡ []
keep_none [] = refl
keep_none (x ∷ xs) = keep_none xs

-- A test that holds on a range keeps all of it, and one that fails there none.
pub filter_all_in : (p : ℕ → Bool) (a n : ℕ) → ((k : ℕ) → a ≤ k → k < a + n → p k ≡ true)
    → filter p (range_with_len a n) ≡ range_with_len a n
filter_all_in p a n holds = filter_agree_in p (λ _. true) a n holds ∙ keep_all (range_with_len a n)

pub filter_none_in : (p : ℕ → Bool) (a n : ℕ) → ((k : ℕ) → a ≤ k → k < a + n → p k ≡ false)
    → filter p (range_with_len a n) ≡ []
filter_none_in p a n fails = filter_agree_in p (λ _. false) a n fails ∙ keep_none (range_with_len a n)

-- A filter of a filter keeps what passes both tests.
pub filter-filter : {X : Type 0} (p q : X → Bool) (xs : List X) → filter q (filter p xs) ≡ filter (λ x. p x && q x) xs
filter-filter p q [] = refl
filter-filter p q (x ∷ xs) =
    elim (p x) as (λ b. filter q (cond b (x ∷ filter p xs) (filter p xs)) ≡ cond (b && q x)
    (x ∷ filter (λ y. p y && q y) xs) (filter (λ y. p y && q y) xs)) [
      | true ↦ ap (λ rest. cond (q x) (x ∷ rest) rest) (filter-filter p q xs)
      | false ↦ filter-filter p q xs
    ]

-- The members of a filtered list are those members of the list that pass.
pub is_among-filter : (p : ℕ → Bool) (xs : List ℕ) (k : ℕ) → is_among (filter p xs) k ≡ (p k && is_among xs k)
is_among-filter p xs k =
    any-filter_same (λ other. other == k) p (p k) (λ other same. ap p (same_number other k same)) xs
  where
    same_number : (a b : ℕ) → (a == b) ≡ true → a ≡ b
    same_number a b e = grind (arith, e)

-- The members of a range.
pub is_among-range : (a n k : ℕ) → is_among (range_with_len a n) k ≡ is_in_range a n k
is_among-range a zero k = grind (arith, nat_tests)
is_among-range a (suc n) k = rw (is_among-range (a + 1) n k) (first_or_later a n k)
  where
    first_or_later : (a n k : ℕ) → ((a == k) || is_in_range (a + 1) n k) ≡ is_in_range a (suc n) k
    first_or_later a n k = grind (arith, nat_tests)

-- A filter of a range is that of a first part and that of the rest.
pub filter-cut : (p : ℕ → Bool) (a m n b : ℕ) → a + m ≡ b
    → filter p (range_with_len a (m + n)) ≡ filter p (range_with_len a m) ++ filter p (range_with_len b n)
filter-cut p a m n b e =
    ap (filter p) (range-split a m n ∙ ap (λ from. range_with_len a m ++ range_with_len from n) e)
    ∙ filter-append p (range_with_len a m) (range_with_len b n)

-- No more is kept of a range than it has numbers, nor than lie below where the test ends.
pub length-filter-range : (p : ℕ → Bool) (a n : ℕ) → length (filter p (range_with_len a n)) ≤ n
length-filter-range p a n =
    let numbers = range_with_len a n in
    omega (arith, length-filter p numbers, count_by-le-length p numbers, length-range_with_len a n)

pub length-filter-below : (p : ℕ → Bool) (n end : ℕ) → ((k : ℕ) → end ≤ k → p k ≡ false)
    → length (filter p (range_with_len 0 n)) ≤ end
length-filter-below p n end ends = elim (cases_lt n end) [
  | inl under ↦ omega (arith, length-filter-range p 0 n)
  | inr over ↦
      let whole : n ≡ end + (n - end) = omega arith in
      let cut = filter-cut p 0 end (n - end) end (omega arith)
      ∙ ap (λ rest. filter p (range_with_len 0 end) ++ rest)
      (filter_none_in p end (n - end) (λ k low high. ends k low)) ∙ append-nil (filter p (range_with_len 0 end)) in
      omega (arith, length-filter-range p 0 end, ap (λ m. length (filter p (range_with_len 0 m))) whole, ap length cut)
]

pub and_false : (a b : Bool) → b ≡ false → (a && b) ≡ false
and_false true b e = e
and_false false b e = refl

pub and_true : (a b : Bool) → b ≡ true → (a && b) ≡ a
and_true true b e = e
and_true false b e = refl

pub or_false : (a b : Bool) → b ≡ false → (a || b) ≡ a
or_false true b e = refl
or_false false b e = e

pub or_true : (a b : Bool) → b ≡ true → (a || b) ≡ true
or_true true b e = refl
or_true false b e = e

-- What passes from first up to end, of the numbers below n, is all that passes there, where nothing
-- does from n on.
pub filter-window : (p : ℕ → Bool) (first end n : ℕ) → ((k : ℕ) → n ≤ k → first ≤ k → k < end → p k ≡ false)
    → filter (λ k. p k && (nat_le first k && nat_lt k end)) (range_with_len 0 n)
    ≡ filter p (range_with_len first (end - first))
filter-window p first end n none = elim (cases_lt end first) [
  | inl empty ↦
      let nothing : end - first ≡ 0 = omega arith in
      filter_none_in q 0 n (λ k low high. outside k (grind (arith, nat_tests)))
      ∙ ap (λ m. filter p (range_with_len first m)) (sym nothing)
  | inr run ↦
      let later : n + end ≡ first + ((end - first) + n) = omega arith in
      sym (append-nil (filter q (range_with_len 0 n)))
      ∙ ap (λ rest. filter q (range_with_len 0 n) ++ rest) (sym (filter_none_in q n end past))
      ∙ sym (filter-cut q 0 n end n (omega arith))
      ∙ ap (λ m. filter q (range_with_len 0 m)) later
      ∙ filter-cut q 0 first ((end - first) + n) first (omega arith)
      ∙ ap₂ (λ a b. a ++ b) (filter_none_in q 0 first (λ k low high. outside k (grind (arith, nat_tests))))
      (filter-cut q first (end - first) n end (omega arith))
      ∙ ap₂ (λ a b. a ++ b)
      (filter_agree_in q p first (end - first) (λ k low high. and_true (p k) (in_run k) (grind (arith, nat_tests))))
      (filter_none_in q end n (λ k low high. outside k (grind (arith, nat_tests))))
      ∙ append-nil (filter p (range_with_len first (end - first)))
]
  where
    in_run : ℕ → Bool
    in_run k = nat_le first k && nat_lt k end

    q : ℕ → Bool
    q k = p k && in_run k

    outside : (k : ℕ) → in_run k ≡ false → q k ≡ false
    outside k e = and_false (p k) (in_run k) e

    past : (k : ℕ) → n ≤ k → k < n + end → q k ≡ false
    past k low high = elim (cases_lt k end) [
      | inl under ↦ elim (cases_lt k first) [
        | inl before ↦ outside k (grind (arith, nat_tests))
        | inr from ↦ ap (λ b. b && in_run k) (none k low from under)
      ]
      | inr over ↦ outside k (grind (arith, nat_tests))
    ]
