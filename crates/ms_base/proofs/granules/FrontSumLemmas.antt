-- Fronts are committed: each of their words lies in a committed granule, so they have no more words
-- than these. And with no loader left there are none.
use Rattle.std.proofs.Common.{◌≡◌, ◌≤◌, ◌<◌, ◌+◌, ◌*◌, ◌/◌, ℕ, Bool, true, false, cond, not, List, [], ◌∷◌, length, map}
use Rattle.std.proofs.Common.{refl, sym, ap, ◌∙◌, arith, inl, inr}
use Rattle.std.specs.Prelude.{◌==◌}
use Rattle.std.specs.List.{AllByRecursion, list_any, filter, flat_map}
use Rattle.std.specs.Map.{values_of}
use Rattle.std.proofs.lemmas.Nat.{div-add-mod'}
use Rattle.std.proofs.Math.Nat.{add-mul}
use Rattle.std.proofs.lemmas.Bool.{and_parts, and_from, or_parts, or_from, or_left, or_right, or_cases, not-true}
use Rattle.std.proofs.lemmas.Bool.{not_from_false, eqb-true}
use Rattle.std.proofs.lemmas.Bool.Decides.{nat_tests}
use Rattle.std.proofs.lemmas.List.Sums.{sum_by-cons}
use Rattle.std.proofs.lemmas.List.Elements.{recursion_from_All}
use Rattle.ms_base.specs.declared.policy.Policy.{Policy}
use Rattle.ms_base.specs.Policy.{granule_of}
use Rattle.ms_base.specs.declared.span.Chunk.{Chunk}
use Rattle.ms_base.specs.Interval.{meet, meets_any, are_apart}
use Rattle.ms_base.specs.Level.{size_of}
use Rattle.ms_base.specs.Front.{HasFront}
use Rattle.ms_base.specs.Held.{words_of}
use Rattle.ms_base.specs.Laws.{is_number}
use Rattle.ms_base.specs.Committed.{is_committed, is_committed_now, committed_with, granules_of}
use Rattle.ms_base.specs.declared.kind.Space.{Space}
use Rattle.ms_base.specs.declared.kind.Space.TheVariants.{NonClass}
use Rattle.ms_base.specs.FreeParts.{free_parts}
use Rattle.ms_base.specs.PoolSteps.Pick.{granule_in}
use Rattle.ms_base.specs.Transition.{purged}
use Rattle.ms_base.specs.State.{Machine, PoolState, slots_in, committed_in, chunks_held, pool_of}
use Rattle.ms_base.specs.Good.{IsSoundLoader, IsSoundPool, IsGood}
use Rattle.ms_base.specs.Totals.{fronts_of}
use Rattle.ms_base.specs.Laws.Sum.{is_word_of, has_word, words_in, IsBounded, IsGivenBack, HoldsNothing}
use Rattle.ms_base.proofs.granules.PolicyLemmas.{granule_some}
use Rattle.ms_base.proofs.free.EmptyLemmas.{filter-none, roots_are_free}
use Rattle.ms_base.proofs.granules.GranuleLemmas.{committed_where_front}
use Rattle.ms_base.proofs.runs.PackingLemmas.{packed}
use Rattle.ms_base.proofs.machine.SumLemmas.{capacity_within, few_slots, fronts_within, used_within, all_blocks_within}
use Rattle.ms_base.proofs.machine.SumLemmas.{committed_within_slots}

-- The words of a chunk's front.
abbrev pub front_run : Chunk → ℕ × ℕ
front_run chunk = (chunk.start, chunk.front)

narrower_apart : (a m b n k l : ℕ) → meet a m b n ≡ false → k ≤ m → l ≤ n → meet a k b l ≡ false
narrower_apart a m b n k l h i j = grind (arith, nat_tests)

front_meets_none : (policy : Policy) (chunk : Chunk) (held : List Chunk) → chunk.front ≤ size_of chunk.level
    → AllByRecursion (HasFront policy) held → meets_any (words_of chunk) (map words_of held) ≡ false
    → meets_any (front_run chunk) (map front_run held) ≡ false
front_meets_none policy chunk [] within fronts h = refl
front_meets_none policy chunk (c ∷ held) within fronts h =
    let both =
    or_parts (meet chunk.start (size_of chunk.level) c.start (size_of c.level))
    (meets_any (words_of chunk) (map words_of held)) h in
    or_from (meet chunk.start chunk.front c.start c.front) (meets_any (front_run chunk) (map front_run held))
    (narrower_apart chunk.start (size_of chunk.level) c.start (size_of c.level) chunk.front c.front both.0 within
    fronts.0.within)
    (front_meets_none policy chunk held within fronts.1 both.1)

-- Fronts of chunks that are apart are so too.
pub fronts_apart : (policy : Policy) (held : List Chunk) → AllByRecursion (HasFront policy) held
    → are_apart (map words_of held) ≡ true → are_apart (map front_run held) ≡ true
fronts_apart policy [] fronts h = refl
fronts_apart policy (c ∷ held) fronts h =
    let both = and_parts (not (meets_any (words_of c) (map words_of held))) (are_apart (map words_of held)) h in
    let none = not-true (meets_any (words_of c) (map words_of held)) both.0 in
    and_from (not (meets_any (front_run c) (map front_run held))) (are_apart (map front_run held))
    (not_from_false (meets_any (front_run c) (map front_run held))
    (front_meets_none policy c held fronts.0.within fronts.1 none))
    (fronts_apart policy held fronts.1 both.1)

-- The granule of a word of a front is committed.
in_its_granule : (granule w : ℕ) → 0 < granule → (w / granule * granule ≤ w) × (w < w / granule * granule + granule)
in_its_granule granule w some = (omega (arith, div-add-mod' w granule), omega (arith, div-add-mod' w granule))

word_meets : (a m b n w : ℕ) → is_word_of (a, m) w ≡ true → b ≤ w → w < b + n → meet a m b n ≡ true
word_meets a m b n w h i j = grind (arith, nat_tests)

word_is_committed : (granule : ℕ) (held : List Chunk) (w : ℕ) → 0 < granule → has_word (map front_run held) w ≡ true
    → is_committed granule held (w / granule) ≡ true
word_is_committed granule [] w some h = absurd (cc)
word_is_committed granule (c ∷ held) w some h =
    let here = in_its_granule granule w some in
    elim (or_cases (is_word_of (front_run c) w) (has_word (map front_run held) w) h) [
      | inl first ↦ or_left (meet c.start c.front (w / granule * granule) granule)
          (is_committed granule held (w / granule))
          (word_meets c.start c.front (w / granule * granule) granule w first here.0 here.1)
      | inr later ↦ or_right (meet c.start c.front (w / granule * granule) granule)
          (is_committed granule held (w / granule)) (word_is_committed granule held w some later)
    ]

-- The words of a granule.
abbrev granule_run : ℕ → ℕ → ℕ × ℕ
granule_run granule number = (number * granule, granule)

word_of_granule : (a n w : ℕ) → a ≤ w → w < a + n → is_word_of (a, n) w ≡ true
word_of_granule a n w h k = grind (arith, nat_tests)

word_is_listed : (granule w : ℕ) (numbers : List ℕ) → 0 < granule → list_any (is_number (w / granule)) numbers ≡ true
    → has_word (map (granule_run granule) numbers) w ≡ true
word_is_listed granule w [] some h = absurd (cc)
word_is_listed granule w (k ∷ numbers) some h =
    let at = in_its_granule granule w some in
    let rest = has_word (map (granule_run granule) numbers) w in
    elim (or_cases (k == w / granule) (list_any (is_number (w / granule)) numbers) h) [
      | inl here ↦ or_left (is_word_of (granule_run granule k) w) rest
          (ap (λ (n : ℕ). is_word_of (granule_run granule n) w) (eqb-true k (w / granule) here)
          ∙ word_of_granule (w / granule * granule) granule w at.0 at.1)
      | inr later ↦ or_right (is_word_of (granule_run granule k) w) rest (word_is_listed granule w numbers some later)
    ]

words_of_fronts : (held : List Chunk) → words_in (map front_run held) ≡ fronts_of held
words_of_fronts [] = refl
words_of_fronts (c ∷ held) =
    sum_by-cons (λ (run : ℕ × ℕ). run.1) (front_run c) (map front_run held)
    ∙ ap (λ (n : ℕ). c.front + n) (words_of_fronts held)
    ∙ sym (sum_by-cons (λ (chunk : Chunk). chunk.front) c held)

words_of_granules : (granule : ℕ) (numbers : List ℕ)
    → words_in (map (granule_run granule) numbers) ≡ length numbers * granule
words_of_granules granule [] = omega arith
words_of_granules granule (k ∷ numbers) =
    omega (
      arith,
      sum_by-cons (λ (run : ℕ × ℕ). run.1) (granule_run granule k) (map (granule_run granule) numbers),
      words_of_granules granule numbers,
      add-mul (length numbers) 1 granule,
    )

-- Fronts have no more words than are committed.
pub fronts_committed : (pool : PoolState) → IsSoundPool pool
    → fronts_of pool.held ≤ length pool.committed * granule_in pool
fronts_committed pool sound =
    omega (
      arith,
      words_of_fronts pool.held,
      words_of_granules granule pool.committed,
      packed (map front_run pool.held) (map (granule_run granule) pool.committed)
          (fronts_apart pool.limits.policy pool.held
          (recursion_from_All (HasFront pool.limits.policy) pool.held sound.held.fronts) sound.held.apart)
          (λ w there. word_is_listed granule w pool.committed some
          (committed_where_front pool (w / granule) sound (word_is_committed granule pool.held w some there))),
    )
  where
    granule : ℕ
    granule = granule_in pool

    some : 0 < granule
    some = omega (arith, granule_some pool.limits.policy)

-- The sums of a space of a good machine.
pub sums_are_bounded : (space : Space) (m : Machine) → IsGood m → IsBounded space m
sums_are_bounded space m good = record {
  blocks = all_blocks_within space (values_of m.loaders)
      (recursion_from_All IsSoundLoader (values_of m.loaders) good.loaders);
  used = used_within space (values_of m.loaders) (recursion_from_All IsSoundLoader (values_of m.loaders) good.loaders);
  fronts = fronts_committed (pool_of space m) (good.pools space);
  lent = fronts_within m.limits.policy (pool_of space m).held
      (recursion_from_All (HasFront m.limits.policy) (pool_of space m).held (good.pools space).held.fronts);
  capacity = capacity_within m.limits.policy (slots_in space m) (pool_of space m).held (good.pools space).held;
  committed = committed_within_slots (pool_of space m) (good.pools space);
  slots = few_slots space m (good.pools space);
}

-- A machine without a loader.
none_pass : (p : ℕ → Bool) (xs : List ℕ) → ((k : ℕ) → p k ≡ false) → filter p xs ≡ []
none_pass p [] none = refl
none_pass p (x ∷ xs) none = ap (λ b. cond b (x ∷ filter p xs) (filter p xs)) (none x) ∙ none_pass p xs none

nothing_in_space : (space : Space) (m : Machine) → IsGood m → m.loaders ≡ [] → IsGivenBack space m
nothing_in_space space m good none = record {
  held = held;
  whole = ap (λ (chunks : List Chunk). free_parts chunks (slots_in space m)) held ∙ roots_are_free (slots_in space m);
  committed = λ reclaims. (good.pools space).committed
      ∙ none_pass (is_committed_now m.limits.policy (committed_in space m) (chunks_held space m.loaders))
      (flat_map (granules_of (granule_of m.limits.policy)) (slots_in space m))
      (λ k. rw (reclaims, held) refl);
  used = rw none refl;
  live = rw none refl;
}
  where
    held : chunks_held space m.loaders ≡ []
    held = rw none refl

pub nothing_is_left : (m : Machine) → IsGood m → m.loaders ≡ [] → HoldsNothing m
nothing_is_left m good none = record {
  spaces = λ space. nothing_in_space space m good none;
  nodes = no_slots;
  granules =
      ap (λ (slots : List ℕ). committed_with m.limits.policy m.committed (chunks_held NonClass m.loaders) slots)
      no_slots;
}
  where
    no_slots : (purged m).slots ≡ []
    no_slots = rw none (filter-none m.slots)
