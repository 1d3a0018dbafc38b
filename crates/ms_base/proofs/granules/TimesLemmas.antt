-- How often runs have a word: at most once where they lie apart.
use Rattle.std.proofs.Common.{◌≡◌, ℕ, ◌+◌, Bool, true, false, not, ◌||◌, List, [], ◌∷◌}
use Rattle.std.proofs.Common.{refl, ap, ◌∙◌, arith}
use Rattle.std.specs.List.{count_by, list_any}
use Rattle.std.proofs.lemmas.Bool.{and_parts, or_parts, or_from}
use Rattle.std.proofs.lemmas.Bool.{not-true}
use Rattle.std.proofs.lemmas.Bool.Decides.{nat_tests}
use Rattle.std.proofs.lemmas.List.Sums.{sum_by-cons}
use Rattle.ms_base.specs.Interval.{meet, meets_any, are_apart, lies_in}
use Rattle.ms_base.proofs.runs.PermutedLemmas.{one_if}

-- The word lies in the run, and in one of the runs.
abbrev pub has_word : ℕ → ℕ × ℕ → Bool
has_word word run = lies_in (word, 1) run

-- How many of the runs have the word.
abbrev pub times : ℕ → List (ℕ × ℕ) → ℕ
times word runs = count_by (has_word word) runs

times_with : (word : ℕ) (run : ℕ × ℕ) (runs : List (ℕ × ℕ))
    → times word (run ∷ runs) ≡ one_if (has_word word run) + times word runs
times_with word run runs = sum_by-cons (λ r. one_if (has_word word r)) run runs

-- Runs that are apart have a word once, or not at all.
apart_from_all : (word : ℕ) (run : ℕ × ℕ) (runs : List (ℕ × ℕ)) → has_word word run ≡ true
    → meets_any run runs ≡ false → list_any (has_word word) runs ≡ false
apart_from_all word run [] here apart = refl
apart_from_all word run (other ∷ runs) here apart = let both =
    or_parts (meet run.0 run.1 other.0 other.1) (meets_any run runs) apart in
    or_from (has_word word other) (list_any (has_word word) runs)
    (not_both word run.0 run.1 other.0 other.1 here both.0) (apart_from_all word run runs here both.1)
  where
    not_both : (w a m b n : ℕ) → lies_in (w, 1) (a, m) ≡ true → meet a m b n ≡ false → lies_in (w, 1) (b, n) ≡ false
    not_both w a m b n h e = grind (arith, nat_tests)

pub once_where_apart : (word : ℕ) (runs : List (ℕ × ℕ)) → are_apart runs ≡ true
    → times word runs ≡ one_if (list_any (has_word word) runs)
once_where_apart word [] apart = refl
once_where_apart word (run ∷ runs) apart = let both = and_parts (not (meets_any run runs)) (are_apart runs) apart in
    times_with word run runs
    ∙ elim (has_word word run) as (λ b. has_word word run ≡ b
    → one_if b + times word runs ≡ one_if (b || list_any (has_word word) runs)) [
      | true ↦ λ here. omega (
        arith,
        once_where_apart word runs both.1,
        ap one_if (apart_from_all word run runs here (not-true (meets_any run runs) both.0)),
      )
      | false ↦ λ past. omega (arith, once_where_apart word runs both.1)
    ] refl
