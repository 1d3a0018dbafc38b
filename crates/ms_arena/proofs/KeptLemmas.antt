-- Runs that come to runs one after the other. The functions of `kept` use these.
use Rattle.std.proofs.Common.{◌≡◌, ◌≤◌, ◌+◌, ℕ, false, List, [], ◌∷◌, ◌++◌, refl, arith, None}
use Rattle.std.proofs.lemmas.Bool.Decides.{nat_tests}
use Rattle.std.proofs.lemmas.List.Sums.{sum_by-cons}
use Rattle.std.specs.List.{AllByRecursion}
use Rattle.ms_base.specs.Interval.{meets_any}
use Rattle.ms_base.specs.Names.{named, with_new}
use Rattle.ms_blocks.specs.FreeBlocks.{MayBeKept, words_in}
use Rattle.ms_blocks.proofs.KeptEntryLemmas.{all-with_new, sum-with_new}
use Rattle.ms_arena.specs.Kept.{MayAllBeKept, with_all}

-- One more comes last.
pub with_all-push : (kept runs : List (ℕ × ℕ)) (run : ℕ × ℕ)
    → with_all kept (runs ++ run ∷ []) ≡ with_new (with_all kept runs) run.0 run.1
with_all-push kept [] run = refl
with_all-push kept (one ∷ runs) run = with_all-push (with_new kept one.0 one.1) runs run

pub may_push : (kept runs : List (ℕ × ℕ)) (run : ℕ × ℕ) → MayAllBeKept kept runs → MayBeKept (with_all kept runs) run
    → MayAllBeKept kept (runs ++ run ∷ [])
may_push kept [] run may more = (more, tt)
may_push kept (one ∷ runs) run may more = (may.0, may_push (with_new kept one.0 one.1) runs run may.1 more)

-- A run that meets none of two words or more starts where none does.
starts_alone : (start words : ℕ) (runs : List (ℕ × ℕ)) → 2 ≤ words → AllByRecursion (λ (run : ℕ × ℕ). 2 ≤ run.1) runs
    → meets_any (start, words) runs ≡ false → named runs start ≡ None
starts_alone start words [] some all apart = refl
starts_alone start words (run ∷ runs) some all apart =
    step start words run runs some all.0 (starts_alone start words runs some all.1) apart
  where
    step : (start words : ℕ) (run : ℕ × ℕ) (runs : List (ℕ × ℕ)) → 2 ≤ words → 2 ≤ run.1
        → (meets_any (start, words) runs ≡ false → named runs start ≡ None)
        → meets_any (start, words) (run ∷ runs) ≡ false → named (run ∷ runs) start ≡ None
    step start words run runs some two ih apart = grind (arith, nat_tests)

-- The words of all.
pub words_in-with_all : (kept runs : List (ℕ × ℕ)) → AllByRecursion (λ (run : ℕ × ℕ). 2 ≤ run.1) kept
    → MayAllBeKept kept runs → words_in (with_all kept runs) ≡ words_in kept + words_in runs
words_in-with_all kept [] all may = omega arith
words_in-with_all kept (run ∷ runs) all may =
    let new = starts_alone run.0 run.1 kept may.0.some all may.0.apart in
    omega (
      arith,
      words_in-with_all (with_new kept run.0 run.1) runs
          (all-with_new (λ (run : ℕ × ℕ). 2 ≤ run.1) kept run.0 run.1 new all may.0.some) may.1,
      sum-with_new kept run.0 run.1 new,
      sum_by-cons (λ (one : ℕ × ℕ). one.1) run runs,
    )
