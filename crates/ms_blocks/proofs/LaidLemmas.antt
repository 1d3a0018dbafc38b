-- Runs that lie one behind another, after an addition and a removal, and what follows of them: they
-- are apart, in order, and have fewer than 2 ^ 64 words where they end below that. Used by the
-- methods of `FreeBlocks`.
use Rattle.std.proofs.Common.{◌≡◌, ℕ, ◌+◌, ◌^◌, ◌≤◌, ◌<◌, Bool, true, false, ◌||◌, cond, List, [], ◌∷◌, Some, None}
use Rattle.std.proofs.Common.{refl, arith}
use Rattle.std.specs.List.{AllByRecursion}
use Rattle.std.specs.List.Sorted.{IsStrictlySortedBy}
use Rattle.std.specs.Map.{keys_of}
use Rattle.std.specs.Ordering.{nat_cmp, match_ordering, is_eq}
use Rattle.std.specs.declared.cmp.Ordering.TheVariants.{Less, Equal, Greater}
use Rattle.std.proofs.lemmas.Bool.Decides.{nat_tests}
use Rattle.std.proofs.lemmas.Map.Keys.{IsStrictlyIncreasing-from_sorted}
use Rattle.ms_base.specs.Interval.{meet, meets_any, are_apart}
use Rattle.ms_base.specs.Names.{named, with_new, without}
use Rattle.ms_blocks.specs.FreeBlocks.{LieFrom, AreKept, EndInWords, MayBeKept, words_in}
use Rattle.ms_blocks.proofs.KeptEntryLemmas.{words_in-cons, named-with_new}

-- What a comparison says of two starts.
compared_less : (a b : ℕ) → nat_cmp a b ≡ Less → a < b
compared_less a b h = grind (arith, nat_tests)

compared_equal : (a b : ℕ) → nat_cmp a b ≡ Equal → a ≡ b
compared_equal a b h = grind (arith, nat_tests)

compared_greater : (a b : ℕ) → nat_cmp a b ≡ Greater → b < a
compared_greater a b h = grind (arith, nat_tests)

-- Runs that don't meet: the lower one ends where the other starts, and they don't start together.
ends_before : (a m b n : ℕ) → a < b → 2 ≤ n → meet a m b n ≡ false → a + m ≤ b
ends_before a m b n lower some apart = grind (arith, nat_tests)

starts_behind : (a m b n : ℕ) → b < a → 2 ≤ m → meet a m b n ≡ false → b + n ≤ a
starts_behind a m b n higher some apart = grind (arith, nat_tests)

same_start_meets : (a m b n : ℕ) → a ≡ b → 2 ≤ m → 2 ≤ n → meet a m b n ≡ false → ⊥
same_start_meets a m b n same some others apart = grind (arith, nat_tests)

behind_apart : (a m b n : ℕ) → a + m ≤ b → meet a m b n ≡ false
behind_apart a m b n behind = grind (arith, nat_tests)

before_apart : (a m b n : ℕ) → b + n ≤ a → meet a m b n ≡ false
before_apart a m b n before = grind (arith, nat_tests)

first_fails : (x y : Bool) → (x || y) ≡ false → x ≡ false
first_fails true y e = absurd (cc)
first_fails false y e = refl

second_fails : (x y : Bool) → (x || y) ≡ false → y ≡ false
second_fails true y e = absurd (cc)
second_fails false y e = e

-- The lower bound may be lower.
pub laid_lower : (low least : ℕ) (runs : List (ℕ × ℕ)) → least ≤ low → LieFrom low runs → LieFrom least runs
laid_lower low least [] h laid = tt
laid_lower low least (run ∷ runs) h laid = (omega (arith, laid.0), laid.1, laid.2)

-- What is named lies from the lower bound on.
pub named_from : (low start words : ℕ) (runs : List (ℕ × ℕ)) → LieFrom low runs → named runs start ≡ Some words
    → low ≤ start
named_from low start words [] laid e = absurd (cc)
named_from low start words (run ∷ runs) laid e =
    elim (is_eq (nat_cmp start run.0)) as (λ b. is_eq (nat_cmp start run.0) ≡ b
    → cond b (Some run.1) (named runs start) ≡ Some words → low ≤ start) [
      | true ↦ λ same e. let here : start ≡ run.0 = at_start start run.0 same in omega (arith, laid.0)
      | false ↦ λ other e. let later : run.0 + run.1 ≤ start = named_from (run.0 + run.1) start words runs laid.2 e in
          omega (arith, laid.0)
    ] refl e
  where
    at_start : (a b : ℕ) → is_eq (nat_cmp a b) ≡ true → a ≡ b
    at_start a b h = grind (arith, nat_tests)

-- Where a run meets none of those kept, none has its start.
pub apart_is_new : (low start words : ℕ) (runs : List (ℕ × ℕ)) → LieFrom low runs → 2 ≤ words
    → meets_any (start, words) runs ≡ false → named runs start ≡ None
apart_is_new low start words [] laid some apart = refl
apart_is_new low start words (run ∷ runs) laid some apart =
    let here = first_fails (meet start words run.0 run.1) (meets_any (start, words) runs) apart in
    let later = second_fails (meet start words run.0 run.1) (meets_any (start, words) runs) apart in
    elim (nat_cmp start run.0) as (λ o. nat_cmp start run.0 ≡ o
    → cond (is_eq o) (Some run.1) (named runs start) ≡ None) [
      | Less ↦ λ o. apart_is_new (run.0 + run.1) start words runs laid.2 some later
      | Equal ↦ λ o. absurd (same_start_meets start words run.0 run.1 (compared_equal start run.0 o) some laid.1 here)
      | Greater ↦ λ o. apart_is_new (run.0 + run.1) start words runs laid.2 some later
    ] refl

-- A run that meets none keeps them so.
pub laid_with : (low start words : ℕ) (runs : List (ℕ × ℕ)) → LieFrom low runs → low ≤ start → 2 ≤ words
    → meets_any (start, words) runs ≡ false
    → LieFrom low (with_new runs start words)
laid_with low start words [] laid from some apart = (from, some, tt)
laid_with low start words (run ∷ runs) laid from some apart =
    let here = first_fails (meet start words run.0 run.1) (meets_any (start, words) runs) apart in
    let later = second_fails (meet start words run.0 run.1) (meets_any (start, words) runs) apart in
    elim (nat_cmp start run.0) as (λ o. nat_cmp start run.0 ≡ o
    → LieFrom low (match_ordering o ((start, words) ∷ run ∷ runs) ((
      run.0,
      words,
    ) ∷ runs) (run ∷ with_new runs start words))) [
      | Less ↦ λ o. (
        from,
        some,
        (
          ends_before start words run.0 run.1 (compared_less start run.0 o) laid.1 here,
          laid.1,
          laid.2,
        ),
      )
      | Equal ↦ λ o. absurd (same_start_meets start words run.0 run.1 (compared_equal start run.0 o) some laid.1 here)
      | Greater ↦ λ o. (
        laid.0,
        laid.1,
        laid_with (run.0 + run.1) start words runs laid.2
            (starts_behind start words run.0 run.1 (compared_greater start run.0 o) some here) some later,
      )
    ] refl

-- So does a removal.
pub laid_without : (low start : ℕ) (runs : List (ℕ × ℕ)) → LieFrom low runs → LieFrom low (without runs start)
laid_without low start [] laid = laid
laid_without low start (run ∷ runs) laid =
    elim (is_eq (nat_cmp start run.0)) as (λ b. LieFrom low (cond b runs (run ∷ without runs start))) [
      | true ↦ laid_lower (run.0 + run.1) low runs (omega (arith, laid.0)) laid.2
      | false ↦ (laid.0, laid.1, laid_without (run.0 + run.1) start runs laid.2)
    ]

-- Runs that end below 2 ^ 64 have fewer words together.
pub words_fit : (low : ℕ) (runs : List (ℕ × ℕ)) → low < 2 ^ 64 → LieFrom low runs → EndInWords runs
    → words_in runs + low < 2 ^ 64
words_fit low [] below laid ends = omega (arith, below)
words_fit low (run ∷ runs) below laid ends =
    omega (arith, laid.0, words_in-cons run runs, words_fit (run.0 + run.1) runs ends.0 laid.2 ends.1)

-- Nothing meets what ends below the lower bound.
none_met : (low start words : ℕ) (runs : List (ℕ × ℕ)) → LieFrom low runs → start + words ≤ low
    → meets_any (start, words) runs ≡ false
none_met low start words [] laid ends = refl
none_met low start words (run ∷ runs) laid ends =
    rw (behind_apart start words run.0 run.1 (omega (
      arith,
      laid.0,
    ))) (none_met (run.0 + run.1) start words runs laid.2 (omega (arith, laid.0)))

-- A run that was added lies apart from the others.
pub added_may_be_kept : (low start words : ℕ) (runs : List (ℕ × ℕ)) → LieFrom low (with_new runs start words)
    → named runs start ≡ None → MayBeKept runs (start, words)
added_may_be_kept low start words [] laid new = record { some = laid.1; apart = refl }
added_may_be_kept low start words (run ∷ runs) laid new =
    elim (nat_cmp start run.0) as (λ o. nat_cmp start run.0 ≡ o
    → LieFrom low (match_ordering o ((start, words) ∷ run ∷ runs) ((
      run.0,
      words,
    ) ∷ runs) (run ∷ with_new runs start words))
    → cond (is_eq o) (Some run.1) (named runs start) ≡ None → MayBeKept (run ∷ runs) (start, words)) [
      | Less ↦ λ o laid new. record {
        some = laid.1;
        apart = none_met (start + words) start words (run ∷ runs) laid.2 (omega arith);
      }
      | Equal ↦ λ o laid new. absurd (cc)
      | Greater ↦ λ o laid new. behind laid (added_may_be_kept (run.0 + run.1) start words runs laid.2 new)
    ] refl laid new
  where
    behind : LieFrom low (run ∷ with_new runs start words) → MayBeKept runs (start, words)
        → MayBeKept (run ∷ runs) (start, words)
    behind laid may =
        let from : run.0 + run.1 ≤ start =
        named_from (run.0 + run.1) start words (with_new runs start words) laid.2 (named-with_new runs start words) in
        record {
          some = may.some;
          apart = rw (before_apart start words run.0 run.1 from) may.apart;
        }

-- The runs are apart, their starts rise, and each has at least two words.
apart : (low : ℕ) (runs : List (ℕ × ℕ)) → LieFrom low runs → are_apart runs ≡ true
apart low [] laid = refl
apart low (run ∷ runs) laid = rw (none_met (run.0 + run.1) run.0 run.1 runs laid.2 (omega arith))
    (apart (run.0 + run.1) runs laid.2)

above : (low start : ℕ) (runs : List (ℕ × ℕ)) → LieFrom low runs → start < low
    → AllByRecursion (λ name. nat_cmp start name ≡ Less) (keys_of runs)
above low start [] laid h = tt
above low start (run ∷ runs) laid h = (
  less start run.0 (omega (arith, laid.0)),
  above (run.0 + run.1) start runs laid.2 (omega (arith, laid.0)),
)
  where
    less : (a b : ℕ) → a < b → nat_cmp a b ≡ Less
    less a b h = grind (arith, nat_tests)

sorted : (low : ℕ) (runs : List (ℕ × ℕ)) → LieFrom low runs → IsStrictlySortedBy nat_cmp (keys_of runs)
unfolding IsStrictlySortedBy
sorted low [] laid = tt
sorted low (run ∷ runs) laid = (
  above (run.0 + run.1) run.0 runs laid.2 (omega (arith, laid.1)),
  sorted (run.0 + run.1) runs laid.2,
)

sizes : (low : ℕ) (runs : List (ℕ × ℕ)) → LieFrom low runs → AllByRecursion (λ (run : ℕ × ℕ). 2 ≤ run.1) runs
sizes low [] laid = tt
sizes low (run ∷ runs) laid = (laid.1, sizes (run.0 + run.1) runs laid.2)

-- What callers know of the kept runs.
pub laid_are_kept : (low : ℕ) (runs : List (ℕ × ℕ)) → LieFrom low runs → AreKept runs
laid_are_kept low runs laid = record {
  rising = IsStrictlyIncreasing-from_sorted _ (sorted low runs laid);
  apart = apart low runs laid;
  sizes = sizes low runs laid;
}
