-- The best fit among runs by start is the first fit among blocks by rank. Used by
-- `FreeBlocks::remove`.
use Rattle.std.proofs.Common.{◌≡◌, ℕ, ◌+◌, ◌≤◌, ◌<◌, inl, inr, Bool, true, false, ◌&&◌, ◌||◌, cond, List, [], ◌∷◌, Some}
use Rattle.std.proofs.Common.{None, refl, ap₂, subst, sym, ◌∙◌, arith}
use Rattle.std.specs.Prelude.{nat_le, nat_lt, ◌==◌, if◌then◌else◌}
use Rattle.std.specs.List.{AllByRecursion, filter, find, list_all}
use Rattle.std.specs.Ordering.{nat_cmp, is_eq}
use Rattle.std.proofs.lemmas.Bool.{leb-true, leb-false, le-leb, lt-leb, ltb-true}
use Rattle.std.proofs.lemmas.Bool.Decides.{nat_tests}
use Rattle.ms_base.specs.declared.span.Block.{Block}
use Rattle.ms_base.specs.Names.{named}
use Rattle.ms_base.specs.Place.{best_fit}
use Rattle.ms_blocks.specs.Rank.{ranks_before, IsRanked, first_fit}
use Rattle.ms_blocks.specs.FreeBlocks.{Yields, IsBestFit, NoneFits, run_of, by_start, StartsDiffer, LieFrom}
use Rattle.ms_blocks.proofs.LaidLemmas.{named_from}
use Rattle.ms_blocks.proofs.RankLemmas.{all_so}
use Rattle.ms_blocks.proofs.StartLemmas.{all_by_start, fit_is_named}

-- What ranks behind a block yields to it.
later_yields : (n : ℕ) (a b : Block) → ranks_before a b ≡ true → Yields n (a.start, a.words) (b.start, b.words)
later_yields n a b before =
    elim (nat_lt a.words b.words) as (λ fewer. nat_lt a.words b.words ≡ fewer
    → (fewer || (a.words == b.words && nat_lt a.start b.start)) ≡ true
    → Yields n (a.start, a.words) (b.start, b.words)) [
      | true ↦ λ fewer e. inr (inl (ltb-true a.words b.words fewer))
      | false ↦ λ fewer e. inr (inr (tied a.words b.words a.start b.start e))
    ] refl before
  where
    tied : (x y s t : ℕ) → (x == y && nat_lt s t) ≡ true → (x ≡ y) × (s ≤ t)
    tied x y s t h = (grind (arith, nat_tests), grind (arith, nat_tests))

-- All blocks yield to the first fit.
all_yield : (blocks : List Block) (n : ℕ) (found : Block) → IsRanked blocks → first_fit blocks n ≡ Some found
    → AllByRecursion (λ (block : Block). Yields n (found.start, found.words) (block.start, block.words)) blocks
all_yield [] n found ranked e = tt
all_yield (block ∷ blocks) n found ranked e =
    elim (nat_le n block.words) as (λ b. nat_le n block.words ≡ b
    → (if b then Some block else first_fit blocks n) ≡ Some found
    → AllByRecursion (λ (other : Block). Yields n (found.start, found.words) (
      other.start,
      other.words,
    )) (block ∷ blocks)) [
      | true ↦ λ enough e. let same : block ≡ found = cc in
          subst (λ (first : Block). AllByRecursion (λ (other : Block). Yields n (first.start, first.words) (
            other.start,
            other.words,
          )) (block ∷ blocks)) same (
            inr (inr (refl, omega arith)),
            all_so _ _ blocks (later_yields n block) ranked.0,
          )
      | false ↦ λ few e. (inl (leb-false n block.words few), all_yield blocks n found ranked.1 e)
    ] refl e

-- The first fit is large enough.
fit_is_enough : (blocks : List Block) (n : ℕ) (found : Block) → first_fit blocks n ≡ Some found → n ≤ found.words
fit_is_enough [] n found e = absurd (cc)
fit_is_enough (block ∷ blocks) n found e =
    elim (nat_le n block.words) as (λ b. nat_le n block.words ≡ b
    → (if b then Some block else first_fit blocks n) ≡ Some found → n ≤ found.words) [
      | true ↦ λ enough e. let same : block ≡ found = cc in
          subst (λ (first : Block). n ≤ first.words) same (leb-true n block.words enough)
      | false ↦ λ few e. fit_is_enough blocks n found e
    ] refl e

-- The run has enough words, and no run that has is smaller.
abbrev fits : ℕ → ℕ × ℕ → Bool
fits n run = nat_le n run.1

abbrev is_least : ℕ → List (ℕ × ℕ) → ℕ × ℕ → Bool
is_least n runs run = list_all (λ (other : ℕ × ℕ). nat_le run.1 other.1) (filter (fits n) runs)

is_least_of : (n : ℕ) (found other : ℕ × ℕ) → Yields n found other → nat_le n other.1 ≡ true
    → nat_le found.1 other.1 ≡ true
is_least_of n found other (inl few) fit = absurd (omega (arith, few, leb-true n other.1 fit))
is_least_of n found other (inr (inl more)) fit = le-leb found.1 other.1 (omega (arith, more))
is_least_of n found other (inr (inr tied)) fit = le-leb found.1 other.1 (omega (arith, tied.0))

-- Where no block fits, all are too small, and no run fits.
pub all_too_small : (blocks : List Block) (n : ℕ) → first_fit blocks n ≡ None
    → AllByRecursion (λ (block : Block). block.words < n) blocks
all_too_small [] n e = tt
all_too_small (block ∷ blocks) n e =
    elim (nat_le n block.words) as (λ b. nat_le n block.words ≡ b
    → (if b then Some block else first_fit blocks n) ≡ None
    → AllByRecursion (λ (block : Block). block.words < n) (block ∷ blocks)) [
      | true ↦ λ enough e. absurd (cc)
      | false ↦ λ few e. (leb-false n block.words few, all_too_small blocks n e)
    ] refl e

nothing_passes : (runs : List (ℕ × ℕ)) (n : ℕ) → NoneFits runs n → filter (fits n) runs ≡ []
nothing_passes [] n all = refl
nothing_passes (run ∷ runs) n all = rw (lt-leb n run.1 all.0) (nothing_passes runs n all.1)

-- A test passes on all that pass a filter.
all_filtered : (pass test : ℕ × ℕ → Bool) (runs : List (ℕ × ℕ))
    → AllByRecursion (λ run. pass run ≡ true → test run ≡ true) runs → list_all test (filter pass runs) ≡ true
all_filtered pass test [] all = refl
all_filtered pass test (run ∷ runs) all =
    elim (pass run) as (λ b. pass run ≡ b → list_all test (cond b (run ∷ filter pass runs) (filter pass runs)) ≡ true) [
      | true ↦ λ passes. rw (all.0 passes) (all_filtered pass test runs all.1)
      | false ↦ λ fails. all_filtered pass test runs all.1
    ] refl

-- A test fails on one that passes a filter, where it does on a named one.
named_is_there : (found run : ℕ × ℕ) → is_eq (nat_cmp found.0 run.0) ≡ true → Some run.1 ≡ Some found.1 → run ≡ found
named_is_there found run same e = let start : found.0 ≡ run.0 = equal found.0 run.0 same in
    let words : run.1 ≡ found.1 = cc in ap₂ (λ a b. (a, b)) (sym start) words
  where
    equal : (a b : ℕ) → is_eq (nat_cmp a b) ≡ true → a ≡ b
    equal a b h = grind (arith, nat_tests)

some_fails : (pass test : ℕ × ℕ → Bool) (found : ℕ × ℕ) (runs : List (ℕ × ℕ)) → named runs found.0 ≡ Some found.1
    → pass found ≡ true → test found ≡ false → list_all test (filter pass runs) ≡ false
some_fails pass test found [] e passed failed = absurd (cc)
some_fails pass test found (run ∷ runs) e passed failed =
    elim (is_eq (nat_cmp found.0 run.0)) as (λ b. is_eq (nat_cmp found.0 run.0) ≡ b
    → cond b (Some run.1) (named runs found.0) ≡ Some found.1
    → list_all test (cond (pass run) (run ∷ filter pass runs) (filter pass runs)) ≡ false) [
      | true ↦ λ same e. subst (λ (first : ℕ × ℕ). list_all test
          (cond (pass first) (first ∷ filter pass runs) (filter pass runs)) ≡ false)
          (sym (named_is_there found run same e)) (rw (passed, failed) refl)
      | false ↦ λ other e. later (pass run) (some_fails pass test found runs e passed failed)
    ] refl e
  where
    later : (b : Bool) → list_all test (filter pass runs) ≡ false
        → list_all test (cond b (run ∷ filter pass runs) (filter pass runs)) ≡ false
    later true ih = elim (test run) as (λ b. (b && list_all test
        (filter pass runs)) ≡ false) [ true ↦ ih | false ↦ refl ]
    later false ih = ih

-- Of the runs that fit, the first that passes the test is the one to which all yield.
skipped : (test : ℕ × ℕ → Bool) (b : Bool) (run : ℕ × ℕ) (rest : List (ℕ × ℕ)) → test run ≡ false
    → find test (cond b (run ∷ rest) rest) ≡ find test rest
skipped test true run rest failed = rw failed refl
skipped test false run rest failed = refl

picks : (test : ℕ × ℕ → Bool) (n low : ℕ) (found : ℕ × ℕ) (runs : List (ℕ × ℕ)) → LieFrom low runs
    → named runs found.0 ≡ Some found.1 → n ≤ found.1 → AllByRecursion (Yields n found) runs
    → test found ≡ true → ((run : ℕ × ℕ) → found.1 < run.1 → test run ≡ false)
    → find test (filter (fits n) runs) ≡ Some found
picks test n low found [] laid e enough all passed others = absurd (cc)
picks test n low found (run ∷ runs) laid e enough all passed others =
    elim (is_eq (nat_cmp found.0 run.0)) as (λ b. is_eq (nat_cmp found.0 run.0) ≡ b
    → cond b (Some run.1) (named runs found.0) ≡ Some found.1
    → find test (cond (nat_le n run.1) (run ∷ filter (fits n) runs) (filter (fits n) runs)) ≡ Some found) [
      | true ↦ λ same e. subst (λ (first : ℕ × ℕ). find test
          (cond (nat_le n first.1) (first ∷ filter (fits n) runs) (filter (fits n) runs)) ≡ Some found)
          (sym (named_is_there found run same e)) (rw (le-leb n found.1 enough, passed) refl)
      | false ↦ λ other e. later (named_from (run.0 + run.1) found.0 found.1 runs laid.2 e) all.0
          (picks test n (run.0 + run.1) found runs laid.2 e enough all.1 passed others)
    ] refl e
  where
    later : run.0 + run.1 ≤ found.0 → Yields n found run → find test (filter (fits n) runs) ≡ Some found
        → find test (cond (nat_le n run.1) (run ∷ filter (fits n) runs) (filter (fits n) runs)) ≡ Some found
    later lower (inl few) ih = rw (lt-leb n run.1 few) ih
    later lower (inr (inl more)) ih = skipped test (nat_le n run.1) run (filter (fits n) runs) (others run more) ∙ ih
    later lower (inr (inr tied)) ih = absurd (omega (arith, laid.1, tied.1, lower))

-- The first fit among blocks by rank is the best fit among runs by start, in words and as the model
-- finds it.
pub fit_is_best : (blocks : List Block) (n : ℕ) (found : Block) → IsRanked blocks → StartsDiffer blocks
    → first_fit blocks n ≡ Some found
    → IsBestFit (by_start blocks) n (run_of found)
fit_is_best blocks n found ranked differ e = record {
  is_kept = fit_is_named blocks n found differ e;
  enough = fit_is_enough blocks n found e;
  least = all_by_start (Yields n (run_of found)) blocks differ (all_yield blocks n found ranked e);
}

pub best_fit-found : (low : ℕ) (runs : List (ℕ × ℕ)) (n : ℕ) (best : ℕ × ℕ) → LieFrom low runs → IsBestFit runs n best
    → best_fit runs n ≡ Some best
best_fit-found low runs n best laid is_best =
    picks (is_least n runs) n low best runs laid is_best.is_kept is_best.enough is_best.least
    (all_filtered (fits n) (λ (other : ℕ × ℕ). nat_le best.1 other.1) runs
    (all_so (Yields n best) (λ (other : ℕ × ℕ). nat_le n other.1 ≡ true
    → nat_le best.1 other.1 ≡ true) runs (is_least_of n best) is_best.least))
    (λ other more.
    some_fails (fits n) (λ (another : ℕ × ℕ). nat_le other.1 another.1) best runs is_best.is_kept
    (le-leb n best.1 is_best.enough) (lt-leb other.1 best.1 more))

pub none_fits : (blocks : List Block) (n : ℕ) → StartsDiffer blocks → first_fit blocks n ≡ None
    → NoneFits (by_start blocks) n
none_fits blocks n differ e = all_by_start (λ (run : ℕ × ℕ). run.1 < n) blocks differ (all_too_small blocks n e)

pub best_fit-none : (runs : List (ℕ × ℕ)) (n : ℕ) → NoneFits runs n → best_fit runs n ≡ None
best_fit-none runs n none = rw (nothing_passes runs n none) refl
