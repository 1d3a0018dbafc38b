-- When parts are committed enough: a free part where it is smaller than a granule, a clear part
-- where the free part around it is. The laws on committed room use these.
use Rattle.std.proofs.Common.{◌≡◌, ◌≤◌, ◌<◌, ℕ, zero, suc, ◌+◌, ◌-◌, ◌*◌, ◌/◌, Bool, true, false, ◌&&◌, refl, sym, ap}
use Rattle.std.proofs.Common.{◌∙◌, arith, inl, inr}
use Rattle.std.specs.Prelude.{nat_lt, nat_le}
use Rattle.std.specs.List.{list_all, range_with_len}
use Rattle.std.proofs.lemmas.Nat.{mul-le, div-add-mod', mod_below, le-div}
use Rattle.std.proofs.lemmas.Bool.{and_parts, and_from, both_ways, false_from_ne_true, leb-true, le-leb, cases_lt}
use Rattle.std.proofs.lemmas.Bool.{lt-ltb, le-ltb}
use Rattle.std.proofs.lemmas.List.Elements.{All-contains}
use Rattle.std.proofs.lemmas.List.Folds.{list_any_at, Any-from_list_any}
use Rattle.ms_base.specs.Policy.{keeps}
use Rattle.ms_base.specs.declared.span.Span.{Span}
use Rattle.ms_base.specs.Interval.{meet}
use Rattle.ms_base.specs.Level.{size_of, highest_level}
use Rattle.ms_base.specs.FreeParts.{IsFreePart, free_parts}
use Rattle.ms_base.specs.Committed.{is_committed, granules_meeting}
use Rattle.ms_base.specs.State.{PoolState}
use Rattle.ms_base.specs.PoolSteps.Pick.{granule_in, has_committed, is_committed_enough}
use Rattle.ms_base.specs.PoolSteps.Causes.{has_committed_room}
use Rattle.ms_base.specs.Good.{IsSoundPool}
use Rattle.ms_base.specs.Laws.Free.{part_at, IsClearIn, is_enough_at, LiesIn, IsCommittedBySize, IsEnoughBySize}
use Rattle.ms_base.specs.Laws.Free.{HasCommittedRoomWhereClear}
use Rattle.ms_base.proofs.granules.PolicyLemmas.{granule_is_level, granule_some}
use Rattle.ms_base.proofs.granules.GranuleLemmas.{committed_where_front, committed_by_front}
use Rattle.ms_base.proofs.free.RoomLemmas.{clear_lies_in_free, listed_is_free, lowest_is_clear}
use Rattle.ms_base.proofs.free.LargestLemmas.{inside_bounds}
use Rattle.ms_base.proofs.granules.FreeGranuleLemmas.{bounds_meet, committed_where_small}

-- A test that gives one answer at each number of a range gives it of all.
all_alike : (p : ℕ → Bool) (b : Bool) (low n : ℕ) → ((k : ℕ) → low ≤ k → k < low + suc n → p k ≡ b)
    → list_all p (range_with_len low (suc n)) ≡ b
all_alike p b low zero each = ap (λ x. x && true) (each low (omega arith) (omega arith)) ∙ with_true b
  where
    with_true : (b : Bool) → (b && true) ≡ b
    with_true true = refl
    with_true false = refl
all_alike p b low (suc n) each =
    ap (λ x. x && list_all p (range_with_len (low + 1) (suc n))) (each low (omega arith) (omega arith))
    ∙ ap (λ x. b && x) (all_alike p b (low + 1) n (λ k h m. each k (omega arith) (omega arith))) ∙ with_itself b
  where
    with_itself : (b : Bool) → (b && b) ≡ b
    with_itself true = refl
    with_itself false = refl

-- The granules that meet the first words of a run meet the run.
first_words_meet : (granule start words size k : ℕ) → 1 ≤ granule → 1 ≤ words → words ≤ size → start / granule ≤ k
    → k ≤ (start + words - 1) / granule → meet start size (k * granule) granule ≡ true
first_words_meet granule start words size k some few within low high = bounds_meet start size (k * granule) granule
    (omega (
      arith,
      div-add-mod' start granule,
      mod_below start granule (omega arith),
      mul-le (start / granule) granule k granule low (omega arith),
    ))
    (omega (
      arith,
      div-add-mod' (start + words - 1) granule,
      mul-le k granule ((start + words - 1) / granule) granule high (omega arith),
    ))

-- How many more granules than the first some words meet.
abbrev more_granules : ℕ → ℕ → ℕ → ℕ
more_granules granule start words = (start + words - 1) / granule - start / granule

granules_rise : (granule start words : ℕ) → 1 ≤ granule → 1 ≤ words → start / granule ≤ (start + words - 1) / granule
granules_rise granule start words some_granule some =
    le-div (start / granule) (start + words - 1) granule (omega (arith, some_granule))
    (omega (arith, div-add-mod' start granule))

-- Words meet a first granule, and so many more.
granules_from_first : (granule start words : ℕ) → 1 ≤ granule → 1 ≤ words
    → granules_meeting granule start words ≡ range_with_len (start / granule) (suc (more_granules granule start words))
granules_from_first granule start words some_granule some =
    ap (λ (n : ℕ). range_with_len (start / granule) n) count
  where
    count : (start + words - 1) / granule + 1 - start / granule ≡ suc (more_granules granule start words)
    count = omega (arith, granules_rise granule start words some_granule some)

-- Where a policy gives back, a granule that meets a free part is committed exactly where the part
-- is smaller than a granule; where it does not, it is committed at least there.
pub committed_by_size : (pool : PoolState) (part : Span) (number : ℕ) → IsSoundPool pool
    → IsFreePart pool.held pool.slots part
    → meet part.start (size_of part.level) (number * granule_in pool) (granule_in pool) ≡ true
    → IsCommittedBySize pool part number
committed_by_size pool part number sound free meets = record {
  small = λ less. committed_where_front pool number sound
      (by_front ∙ lt-ltb (size_of part.level) (granule_in pool) less);
  large = λ reclaims large. committed_by_front pool number sound reclaims ∙ by_front
      ∙ le-ltb (size_of part.level) (granule_in pool) large;
}
  where
    by_front : is_committed (granule_in pool) pool.held number ≡ nat_lt (size_of part.level) (granule_in pool)
    by_front =
        committed_where_small pool.limits.policy pool.held pool.slots part number (granule_is_level pool.limits.policy)
        sound.held free meets

-- All granules of the first words of a free part are committed alike.
enough_alike : (pool : PoolState) (part : Span) (words : ℕ) (b : Bool) → 1 ≤ words → words ≤ size_of part.level
    → ((k : ℕ) → meet part.start (size_of part.level) (k * granule_in pool) (granule_in pool) ≡ true
    → has_committed pool k ≡ b)
    → is_committed_enough pool words part ≡ b
enough_alike pool part words b some few each =
    ap (list_all (has_committed pool))
    (granules_from_first granule part.start words (granule_some pool.limits.policy) some)
    ∙ all_alike (has_committed pool) b (part.start / granule) (more_granules granule part.start words)
    (λ k h m. each k
    (first_words_meet granule part.start words (size_of part.level) k (granule_some pool.limits.policy) some few h
    (omega (arith, granules_rise granule part.start words (granule_some pool.limits.policy) some))))
  where
    granule : ℕ
    granule = granule_in pool

pub enough_by_size : (pool : PoolState) (part : Span) (words : ℕ) → IsSoundPool pool
    → IsFreePart pool.held pool.slots part
    → 1 ≤ words → words ≤ size_of part.level → IsEnoughBySize pool part words
enough_by_size pool part words sound free some few = record {
  small = λ less. enough_alike pool part words true some few
      (λ k meets. (committed_by_size pool part k sound free meets).small less);
  large = λ reclaims large. enough_alike pool part words false some few
      (λ k meets. (committed_by_size pool part k sound free meets).large reclaims large);
}

-- Where a part is committed enough, so is the free part that it lies in, where a policy gives back.
around_is_enough : (pool : PoolState) (part around : Span) (words : ℕ) → IsSoundPool pool
    → keeps pool.limits.policy ≡ false
    → IsFreePart pool.held pool.slots around → LiesIn part around → 1 ≤ words → words ≤ size_of part.level
    → is_committed_enough pool words part ≡ true → is_committed_enough pool words around ≡ true
around_is_enough pool part around words sound reclaims free within some few enough =
    elim (cases_lt (size_of around.level) granule) [
      | inl less ↦ (enough_by_size pool around words sound free some (omega (arith, bounds))).small less
      | inr large ↦
          absurd (both_ways (has_committed pool first)
          ((committed_by_size pool around first sound free first_meets).large reclaims large) first_committed)
    ]
  where
    granule : ℕ
    granule = granule_in pool

    first : ℕ
    first = part.start / granule

    bounds : (around.start ≤ part.start) × (part.start + size_of part.level ≤ around.start + size_of around.level)
    bounds = inside_bounds part.start (size_of part.level) around.start (size_of around.level) within.inside

    first_meets : meet around.start (size_of around.level) (first * granule) granule ≡ true
    first_meets = bounds_meet around.start (size_of around.level) (first * granule) granule
        (omega (
          arith,
          bounds.0,
          div-add-mod' part.start granule,
          mod_below part.start granule (omega (arith, granule_some pool.limits.policy)),
        ))
        (omega (arith, bounds.1, div-add-mod' part.start granule, some, few))

    first_committed : has_committed pool first ≡ true
    first_committed =
        (and_parts (has_committed pool first)
        (list_all (has_committed pool) (range_with_len (first + 1) (more_granules granule part.start words)))
        (ap (list_all (has_committed pool))
        (sym (granules_from_first granule part.start words (granule_some pool.limits.policy) some)) ∙ enough)).0

-- There is committed room where a clear part is committed enough, and the other way round.
pub committed_room_is_clear : (pool : PoolState) (m words : ℕ) → m ≤ highest_level → 1 ≤ words → words ≤ size_of m
    → IsSoundPool pool → HasCommittedRoomWhereClear pool m words
committed_room_is_clear pool m words h some few sound = record {
  room = room;
  clear = clear;
  full = λ none. false_from_ne_true (has_committed_room pool m words) (λ e. let some_clear = clear e in
      both_ways (is_enough_at pool some_clear.0 m words) (none some_clear.0 some_clear.1) some_clear.2);
}
  where
    test : Span → Bool
    test part = nat_le part.level m && is_committed_enough pool words part

    clear : has_committed_room pool m words ≡ true → (start : ℕ) × IsClearIn pool start m
        × (is_enough_at pool start m words ≡ true)
    clear e = let found = Any-from_list_any test (free_parts pool.held pool.slots) e in
        let both = and_parts (nat_le found.1.level m) (is_committed_enough pool words found.1) found.4 in (
          found.1.start,
          lowest_is_clear pool.held pool.slots found.1 m (found.0, found.2, found.3)
              (leb-true found.1.level m both.0) h,
          both.1,
        )

    room : keeps pool.limits.policy ≡ false → (start : ℕ) → IsClearIn pool start m
        → is_enough_at pool start m words ≡ true → has_committed_room pool m words ≡ true
    room reclaims start clear enough = let found = clear_lies_in_free pool.held pool.slots (part_at start m) clear in
        list_any_at test (free_parts pool.held pool.slots) found.free.0 found.around found.free.1
        (ap test found.free.2
        ∙ and_from (nat_le found.around.level m) (is_committed_enough pool words found.around)
        (le-leb found.around.level m found.within.wide)
        (around_is_enough pool (part_at start m) found.around words sound reclaims
        (All-contains (IsFreePart pool.held pool.slots) (free_parts pool.held pool.slots) found.around
        (listed_is_free pool.held pool.slots) found.free)
        found.within some few enough))
