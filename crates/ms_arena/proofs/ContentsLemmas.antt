-- The contents of a run, by the value of each word.
use Rattle.std.proofs.Common.{◌≡◌, ◌≢◌, ◌≤◌, ◌<◌, ◌+◌, ℕ, Some, List, length, map, replicate}
use Rattle.std.proofs.Common.{set, get_or, sym, ap, ◌∙◌, inl, inr, arith}
use Rattle.std.proofs.Common.{get_or-set_same, get_or-set_other}
use Rattle.std.specs.Prelude.{slice_get, slice_set}
use Rattle.std.specs.List.{range_with_len}
use Rattle.std.proofs.lemmas.Bool.{cases_eq}
use Rattle.std.proofs.lemmas.List.{length-set, length-replicate, get_or-replicate}
use Rattle.std.proofs.lemmas.List.FromFn.{length-map-range_with_len, get_or-map-range_with_len, fill_by_all}
use Rattle.std.proofs.lemmas.Option.{slice_get-get_or}

-- The words of a run, by what is said of each word: they stay, are all 0, or are the same but for
-- one.
abbrev pub contents_by : (ℕ → ℕ) → ℕ × ℕ → List ℕ
contents_by value run = map (λ (index : ℕ). value (run.0 + index)) (range_with_len 0 run.1)

pub contents_long : (value : ℕ → ℕ) (run : ℕ × ℕ) → length (contents_by value run) ≡ run.1
contents_long value run = length-map-range_with_len (λ (index : ℕ). value (run.0 + index)) 0 run.1

pub contents_stay : (old new : ℕ → ℕ) (run : ℕ × ℕ)
    → ((word : ℕ) → run.0 ≤ word → word < run.0 + run.1 → new word ≡ old word)
    → contents_by new run ≡ contents_by old run
contents_stay old new run same =
    sym (fill_by_all (λ index. new (run.0 + index)) (contents_by old run) run.1 0 (contents_long old run)
    (λ k less. get_or-map-range_with_len (λ (index : ℕ). old (run.0 + index)) 0 run.1 k k 0 less (omega arith)
    ∙ sym (same (run.0 + k) (omega arith) (omega (arith, less)))))

pub contents_zero : (value : ℕ → ℕ) (run : ℕ × ℕ)
    → ((word : ℕ) → run.0 ≤ word → word < run.0 + run.1 → value word ≡ 0)
    → contents_by value run ≡ replicate run.1 0
contents_zero value run zero =
    sym (fill_by_all (λ index. value (run.0 + index)) (replicate run.1 0) run.1 0 (length-replicate run.1 0)
    (λ k less. get_or-replicate run.1 k 0 0 less ∙ sym (zero (run.0 + k) (omega arith) (omega (arith, less)))))

pub contents_set : (old new : ℕ → ℕ) (run : ℕ × ℕ) (index value : ℕ) → index < run.1
    → new (run.0 + index) ≡ value → ((other : ℕ) → other ≢ run.0 + index → new other ≡ old other)
    → contents_by new run ≡ slice_set (contents_by old run) index value
contents_set old new run index value within written others =
    sym (fill_by_all (λ index. new (run.0 + index)) (set was index value) run.1 0
    (length-set was index value ∙ contents_long old run)
    (λ k less. elim (cases_eq k index) [
      | inl same ↦ ap (λ (k : ℕ). get_or (set was index value) k 0) same
          ∙ get_or-set_same was index value 0 (omega (arith, contents_long old run, within)) ∙ sym written
          ∙ ap (λ (k : ℕ). new (run.0 + k)) (sym same)
      | inr differ ↦ get_or-set_other was index k value 0 differ
          ∙ get_or-map-range_with_len (λ (index : ℕ). old (run.0 + index)) 0 run.1 k k 0 less (omega arith)
          ∙ sym (others (run.0 + k) (λ same. differ (omega (arith, same))))
    ]))
  where
    was : List ℕ
    was = contents_by old run

pub word_in_contents : (value : ℕ → ℕ) (run : ℕ × ℕ) (index : ℕ) → index < run.1
    → slice_get (contents_by value run) index ≡ Some (value (run.0 + index))
word_in_contents value run index within =
    slice_get-get_or (contents_by value run) index 0 (omega (arith, within, contents_long value run))
    ∙ ap (λ (word : ℕ). Some word)
    (get_or-map-range_with_len (λ (index : ℕ). value (run.0 + index)) 0 run.1 index index 0 within (omega arith))
