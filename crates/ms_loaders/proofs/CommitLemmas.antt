-- A space where a chunk came or grew: which granules came, and which of the run.
-- `System::allocate_with_run` uses these.
use Rattle.std.proofs.Common.{◌≡◌, ◌≤◌, ℕ, ◌+◌, ◌*◌, Bool, true, false, not, ◌&&◌, ◌||◌, List, [], ◌∷◌}
use Rattle.std.proofs.Common.{◌++◌, length, map, refl, sym, ap, ◌∙◌, subst, inl, inr, arith}
use Rattle.std.specs.List.{All, AllByRecursion, list_any, list_all, flat_map, filter}
use Rattle.std.proofs.lemmas.Bool.{and_parts, and_from, or_cases, or_left, or_right, or_parts, or_from, both_ways}
use Rattle.std.proofs.lemmas.Bool.{false_from_ne_true, not-true, eqb-true}
use Rattle.std.proofs.lemmas.Bool.Decides.{nat_tests}
use Rattle.std.proofs.lemmas.List.Elements.{recursion_from_All}
use Rattle.std.proofs.lemmas.List.Folds.{list_any-append, list_all-append}
use Rattle.std.proofs.lemmas.Map.Views.{any-filter_same}
use Rattle.ms_base.specs.declared.span.Chunk.{Chunk}
use Rattle.ms_base.specs.Interval.{meet, meets_any, are_apart}
use Rattle.ms_base.specs.Level.{size_of}
use Rattle.ms_base.specs.Part.{IsPart, slot_of, is_reserved}
use Rattle.ms_base.specs.Policy.{keeps}
use Rattle.ms_base.specs.Front.{HasFront}
use Rattle.ms_base.specs.Held.{meets_chunk, words_of}
use Rattle.ms_base.specs.Committed.{is_among, is_committed, is_committed_now, committed_with, granules_of}
use Rattle.ms_base.specs.State.{PoolState}
use Rattle.ms_base.specs.PoolSteps.Pick.{granule_in, has_committed}
use Rattle.ms_base.specs.PoolSteps.Causes.{granules_missing}
use Rattle.ms_base.specs.Good.{IsSoundPool}
use Rattle.ms_base.specs.Laws.{is_number}
use Rattle.ms_base.proofs.runs.ApartLemmas.{All-rest_of, All-middle_of, list_any-with, meet_turned}
use Rattle.ms_base.proofs.arena.GrownLemmas.{clear_from_runs}
use Rattle.ms_base.proofs.granules.GranuleLemmas.{committed_where_now, committed_where_front, committed_by_front}
use Rattle.ms_base.proofs.granules.GranuleCountLemmas.{count_with_front, meets_front}

-- The pool with other chunks, slots and granules.
abbrev pub pool_with : PoolState → List Chunk → List ℕ → List ℕ → ℕ → PoolState
pool_with pool held slots committed elsewhere =
    record pool { held = held; slots = slots; committed = committed; elsewhere = elsewhere }

-- A chunk is among others: in the place of none, or of one whose front it reaches past.
pub record Commits (pool : PoolState) (held : List Chunk) (slots committed : List ℕ) (elsewhere : ℕ)
    (mid : List Chunk) (is : Chunk) : Type 0 where
  pub before : List Chunk
  pub after : List Chunk
  pub was_held : pool.held ≡ before ++ (mid ++ after)
  pub is_held : held ≡ before ++ is ∷ after
  pub sound : IsSoundPool pool
  pub sound_after : IsSoundPool (pool_with pool held slots committed elsewhere)
  pub now : committed ≡ committed_with pool.limits.policy pool.committed held slots
  pub as_before : filter (has_committed pool) (flat_map (granules_of (granule_in pool)) slots) ≡ pool.committed
  pub reaches : (k : ℕ) → list_any (λ (c : Chunk). meets_front (granule_in pool) c k) mid ≡ true
      → meets_front (granule_in pool) is k ≡ true

-- What passes a test is among those that pass a wider one.
pub among_filtered : (p : ℕ → Bool) (xs : List ℕ) (k : ℕ)
    → list_any (is_number k) (filter p xs) ≡ (p k && list_any (is_number k) xs)
among_filtered p xs k = any-filter_same (is_number k) p (p k) (λ j e. ap p (eqb-true j k e)) xs

wider : (p q : ℕ → Bool) (xs : List ℕ) (k : ℕ) → (p k ≡ true → q k ≡ true)
    → list_any (is_number k) (filter p xs) ≡ true → list_any (is_number k) (filter q xs) ≡ true
wider p q xs k passes there =
    let both = and_parts (p k) (list_any (is_number k) xs) (sym (among_filtered p xs k) ∙ there) in
    among_filtered q xs k ∙ and_from (q k) (list_any (is_number k) xs) (passes both.0) both.1

-- A chunk that is apart from the others meets none of them.
clear_of : (b : List Chunk) (is : Chunk) (a : List Chunk) → are_apart (map words_of (b ++ is ∷ a)) ≡ true
    → meets_any (words_of is) (map words_of (b ++ a)) ≡ false
clear_of [] is a apart = not-true (meets_any (words_of is) (map words_of a))
    (and_parts (not (meets_any (words_of is) (map words_of a))) (are_apart (map words_of a)) apart).0
clear_of (c ∷ b) is a apart =
    let both =
    and_parts (not (meets_any (words_of c) (map words_of (b ++ is ∷ a)))) (are_apart (map words_of (b ++ is ∷ a)))
    apart in
    or_from (meet is.start (size_of is.level) c.start (size_of c.level))
    (meets_any (words_of is) (map words_of (b ++ a)))
    (meet_turned is.start (size_of is.level) c.start (size_of c.level)
    ∙ one_of b (not-true (meets_any (words_of c) (map words_of (b ++ is ∷ a))) both.0))
    (clear_of b is a both.1)
  where
    one_of : (b : List Chunk) → meets_any (words_of c) (map words_of (b ++ is ∷ a)) ≡ false
        → meet c.start (size_of c.level) is.start (size_of is.level) ≡ false
    one_of [] none =
        (or_parts (meet c.start (size_of c.level) is.start (size_of is.level))
        (meets_any (words_of c) (map words_of a)) none).0
    one_of (d ∷ b) none =
        one_of b
        (or_parts (meet c.start (size_of c.level) d.start (size_of d.level))
        (meets_any (words_of c) (map words_of (b ++ is ∷ a))) none).1

-- So a granule within it holds no word of another's front.
outside : (start front size from words at granule : ℕ) → front ≤ size → from ≤ at → at + granule ≤ from + words
    → meet start size from words ≡ false → meet start front at granule ≡ false
outside start front size from words at granule h k m clear = grind (arith, nat_tests, clear)

none_meet : (granule : ℕ) (is : Chunk) (k : ℕ) (others : List Chunk) → is.start ≤ k * granule
    → k * granule + granule ≤ is.start + size_of is.level
    → AllByRecursion (λ (c : Chunk). c.front ≤ size_of c.level) others
    → meets_chunk others is.start is.level ≡ false → list_any (λ (c : Chunk). meets_front granule c k) others ≡ false
none_meet granule is k [] h m fronts clear = refl
none_meet granule is k (c ∷ others) h m fronts clear =
    let both =
    or_parts (meet c.start (size_of c.level) is.start (size_of is.level)) (meets_chunk others is.start is.level) clear
    in
    or_from (meets_front granule c k) (list_any (λ (one : Chunk). meets_front granule one k) others)
    (outside c.start c.front (size_of c.level) is.start (size_of is.level) (k * granule) granule fronts.0 h m both.0)
    (none_meet granule is k others h m fronts.1 both.1)

fronts_within : (pool : PoolState) (chunks : List Chunk) → AllByRecursion (HasFront pool.limits.policy) chunks
    → AllByRecursion (λ (c : Chunk). c.front ≤ size_of c.level) chunks
fronts_within pool [] all = tt
fronts_within pool (c ∷ chunks) all = (all.0.within, fronts_within pool chunks all.1)

-- Of chunks the middle ones, and the others.
joins : (b m a is : Bool) → (m ≡ true → is ≡ true) → (is || (b || a)) ≡ ((b || (m || a)) || is)
joins true m a true f = refl
joins true m a false f = refl
joins false true a is f = let e = f refl in rw e refl
joins false false true true f = refl
joins false false true false f = refl
joins false false false true f = refl
joins false false false false f = refl

module _ (pool : PoolState) (held : List Chunk) (slots committed : List ℕ) (elsewhere : ℕ) (mid : List Chunk)
    (is : Chunk) (c : Commits pool held slots committed elsewhere mid is) where
  abbrev granule : ℕ
  granule = granule_in pool

  abbrev numbers : List ℕ
  numbers = flat_map (granules_of granule) slots

  pub its_part : IsPart is.start is.level
  its_part = (recursion_from_All (λ (chunk : Chunk). IsPart chunk.start chunk.level) (is ∷ [])
      (All-middle_of (λ (chunk : Chunk). IsPart chunk.start chunk.level) c.before (is ∷ []) c.after
      (subst (All (λ (chunk : Chunk). IsPart chunk.start chunk.level)) c.is_held c.sound_after.held.parts))).0

  pub its_front : HasFront pool.limits.policy is
  its_front = (recursion_from_All (HasFront pool.limits.policy) (is ∷ [])
      (All-middle_of (HasFront pool.limits.policy) c.before (is ∷ []) c.after
      (subst (All (HasFront pool.limits.policy)) c.is_held c.sound_after.held.fronts))).0

  its_slot : is_reserved slots (slot_of is.start) ≡ true
  its_slot =
      let test : Chunk → Bool = λ chunk. is_reserved slots (slot_of chunk.start) in
      (and_parts (test is) (list_all test c.after)
      (and_parts (list_all test c.before) (list_all test (is ∷ c.after))
      (sym (list_all-append test c.before (is ∷ c.after)) ∙ sym (ap (list_all test) c.is_held)
      ∙ c.sound_after.held.reserved)).1).0

  adds : (k : ℕ) → is_committed granule held k ≡ (is_committed granule pool.held k || meets_front granule is k)
  adds k =
      let test : Chunk → Bool = λ one. meets_front granule one k in
      ap (list_any test) c.is_held ∙ list_any-with test c.before is c.after
      ∙ ap (λ b. test is || b) (list_any-append test c.before c.after)
      ∙ joins (list_any test c.before) (list_any test mid) (list_any test c.after) (test is) (c.reaches k)
      ∙ ap (λ b. (list_any test c.before || b) || test is) (sym (list_any-append test mid c.after))
      ∙ ap (λ b. b || test is) (sym (list_any-append test c.before (mid ++ c.after)))
      ∙ ap (λ l. list_any test l || test is) (sym c.was_held)

  -- What was committed stays so, and what the front meets comes.
  pub stays : (k : ℕ) → has_committed pool k ≡ true → is_among committed k ≡ true
  stays k there =
      elim (or_cases (keeps pool.limits.policy && has_committed pool k) (is_committed granule pool.held k)
      (committed_where_now pool k c.sound there)) [
        | inl kept ↦ ap (λ l. is_among l k) c.now
            ∙ wider (has_committed pool) (is_committed_now pool.limits.policy pool.committed held) numbers k
            (λ e. or_left (keeps pool.limits.policy && has_committed pool k) (is_committed granule held k) kept)
            (ap (λ l. is_among l k) c.as_before ∙ there)
        | inr front ↦ committed_where_front (pool_with pool held slots committed elsewhere) k c.sound_after
            (adds k ∙ or_left (is_committed granule pool.held k) (meets_front granule is k) front)
      ]

  pub fronted : (k : ℕ) → meets_front granule is k ≡ true → is_among committed k ≡ true
  fronted k meets = committed_where_front (pool_with pool held slots committed elsewhere) k c.sound_after
      (adds k ∙ or_right (is_committed granule pool.held k) (meets_front granule is k) meets)

  -- What came the front meets, and none that it replaces does.
  pub came_by_front : (k : ℕ) → is_among committed k ≡ true → has_committed pool k ≡ false
      → meets_front granule is k ≡ true
  came_by_front k there none =
      let passes = and_parts (is_committed_now pool.limits.policy pool.committed held k) (list_any (is_number k) numbers)
      (sym (among_filtered (is_committed_now pool.limits.policy pool.committed held) numbers k)
      ∙ sym (ap (λ l. is_among l k) c.now) ∙ there) in
      elim (or_cases (keeps pool.limits.policy && has_committed pool k) (is_committed granule held k) passes.0) [
        | inl kept ↦ absurd (both_ways (has_committed pool k) none
            (and_parts (keeps pool.limits.policy) (has_committed pool k) kept).1)
        | inr front ↦ elim (or_cases (is_committed granule pool.held k) (meets_front granule is k)
            (sym (adds k) ∙ front)) [
              | inl was ↦ absurd (both_ways (has_committed pool k) none (committed_where_front pool k c.sound was))
              | inr meets ↦ meets
            ]
      ]

  pub none_replaced : (k : ℕ) → has_committed pool k ≡ false
      → list_any (λ (one : Chunk). meets_front granule one k) mid ≡ false
  none_replaced k none = false_from_ne_true (list_any test mid) (λ meets.
      both_ways (has_committed pool k) none (committed_where_front pool k c.sound
      (ap (list_any test) c.was_held ∙ list_any-append test c.before (mid ++ c.after)
      ∙ or_right (list_any test c.before) (list_any test (mid ++ c.after))
      (list_any-append test mid c.after ∙ or_left (list_any test mid) (list_any test c.after) meets))))
    where
      test : Chunk → Bool
      test one = meets_front granule one k

  pub count : length committed ≡ length pool.committed + granules_missing pool is
  count = ap length c.now
      ∙ count_with_front pool held slots is c.sound its_part its_front.some its_front.within c.sound_after.slots its_slot
      c.as_before adds

  -- Where a policy gives back, a granule within the chunk that no front replaced met was not
  -- committed.
  pub was_not : keeps pool.limits.policy ≡ false → (k : ℕ) → is.start ≤ k * granule
      → k * granule + granule ≤ is.start + size_of is.level
      → list_any (λ (one : Chunk). meets_front granule one k) mid ≡ false → has_committed pool k ≡ false
  was_not reclaims k low high none =
      committed_by_front pool k c.sound reclaims ∙ ap (list_any test) c.was_held
      ∙ list_any-append test c.before (mid ++ c.after)
      ∙ ap (λ b. list_any test c.before || b) (list_any-append test mid c.after)
      ∙ ap (λ b. list_any test c.before || (b || list_any test c.after)) none
      ∙ sym (list_any-append test c.before c.after)
      ∙ none_meet granule is k (c.before ++ c.after) low high
      (fronts_within pool (c.before ++ c.after)
      (recursion_from_All (HasFront pool.limits.policy) (c.before ++ c.after)
      (All-rest_of (HasFront pool.limits.policy) c.before mid c.after
      (subst (All (HasFront pool.limits.policy)) c.was_held c.sound.held.fronts))))
      (clear_from_runs is (c.before ++ c.after) (clear_of c.before is c.after
      (sym (ap (λ l. are_apart (map words_of l)) c.is_held) ∙ c.sound_after.held.apart)))
    where
      test : Chunk → Bool
      test one = meets_front granule one k
