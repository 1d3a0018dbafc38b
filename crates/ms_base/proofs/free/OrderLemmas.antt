-- What the pool answers does not depend on the order of the held chunks, nor do its sums: a pool
-- that has its chunks by address uses these against a machine that has them by loader. Two lists
-- that are alike give the same answers; the sums want a permutation, which makes them alike
-- (`permuted_are_alike`).
use Rattle.std.proofs.Common.{◌≡◌, ℕ, ◌+◌, ◌*◌, Bool, true, false, cond, not, ◌&&◌, ◌||◌, List, [], ◌∷◌, length, map}
use Rattle.std.proofs.Common.{refl, sym, ap, ◌∙◌}
use Rattle.std.specs.Prelude.{◌==◌, nat_le, nat_lt, slice_get, max, Result, Ok, Err, if◌then◌else◌}
use Rattle.std.specs.Option.{unwrap_or}
use Rattle.std.specs.List.{list_any, list_all, filter, flat_map, count_by}
use Rattle.std.specs.List.Sorted.{IsPermutation}
use Rattle.std.proofs.lemmas.List.Sorted.{sum_by-IsPermutation, All-permutation, IsPermutation-map}
use Rattle.ms_base.specs.declared.span.Chunk.{Chunk}
use Rattle.ms_base.specs.declared.span.Span.{Span}
use Rattle.ms_base.specs.declared.refusal.Refusal.{Refusal}
use Rattle.ms_base.specs.declared.refusal.Refusal.TheVariants.{CommitLimit, ReserveLimit, NoRoom}
use Rattle.ms_base.specs.Level.{size_of}
use Rattle.ms_base.specs.Part.{IsPart, is_leader, buddy_start, slot_of, is_reserved}
use Rattle.ms_base.specs.declared.policy.Policy.{Policy}
use Rattle.ms_base.specs.Held.{AreHeld, words_of}
use Rattle.ms_base.specs.Good.{IsSoundPool}
use Rattle.ms_base.proofs.runs.PermutedLemmas.{apart-permuted}
use Rattle.ms_base.specs.Policy.{keeps}
use Rattle.ms_base.specs.Front.{HasFront, front_for, granules_for}
use Rattle.ms_base.specs.FreeParts.{free_parts}
use Rattle.ms_base.specs.State.{PoolState, committed_now}
use Rattle.ms_base.specs.PoolSteps.Pick.{Search, granule_in, is_committed_enough, searches, new_root, found_first, chunk_picked}
use Rattle.ms_base.specs.PoolSteps.Causes.{committed_count, node_limit, has_room, has_committed_room, granules_missing}
use Rattle.ms_base.specs.PoolSteps.Causes.{granules_needed, needs_none, meets_reserve_limit, meets_commit_limit}
use Rattle.ms_base.specs.PoolSteps.{may_become_parent, with_front, parent_with_front, within_limit, grown, taken}
use Rattle.ms_base.specs.Totals.{PoolSums, all_levels, lent_by_level, free_by_level, capacity_of, fronts_of, pool_sums}
use Rattle.ms_base.specs.Laws.Free.{AreAlike, with_held, AnswersTheSame}
use Rattle.ms_base.proofs.free.AlikeLemmas.{alike_leave_the_same, permuted_are_alike}

same_free : (pool : PoolState) (other : List Chunk) → AreAlike pool.held other
    → free_parts other pool.slots ≡ free_parts pool.held pool.slots
same_free pool other alike =
    sym (alike_leave_the_same pool.limits.policy pool.committed pool.slots pool.held other alike).free

pub committed_alike : (pool : PoolState) (other : List Chunk) → AreAlike pool.held other
    → committed_now (with_held pool other) ≡ committed_now pool
committed_alike pool other alike =
    sym (alike_leave_the_same pool.limits.policy pool.committed pool.slots pool.held other alike).committed

-- The tests of room.
pub room_alike : (pool : PoolState) (other : List Chunk) → AreAlike pool.held other → (m : ℕ)
    → has_room (with_held pool other) m ≡ has_room pool m
room_alike pool other alike m = ap (list_any (λ (part : Span). nat_le part.level m)) (same_free pool other alike)

pub committed_room_alike : (pool : PoolState) (other : List Chunk) → AreAlike pool.held other → (m words : ℕ)
    → has_committed_room (with_held pool other) m words ≡ has_committed_room pool m words
committed_room_alike pool other alike m words =
    ap (list_any (λ (part : Span). nat_le part.level m && is_committed_enough pool words part))
    (same_free pool other alike)

pub reserve_limit_alike : (pool : PoolState) (other : List Chunk) → AreAlike pool.held other → (m : ℕ)
    → meets_reserve_limit (with_held pool other) m ≡ meets_reserve_limit pool m
reserve_limit_alike pool other alike m =
    ap (λ b. not b && (length pool.slots == node_limit pool)) (room_alike pool other alike m)

-- The searches, over a list of free parts.
abbrev found_among : PoolState → ℕ → ℕ → ℕ → List Span → Span
found_among pool p m words parts = unwrap_or (slice_get (flat_map (λ (search : Search). flat_map (λ (level : ℕ).
    filter (λ (part : Span). (part.level == level) && (not search.committed || is_committed_enough pool words part))
    parts) search.levels) (searches p m)) 0) (new_root pool)

pub found_alike : (pool : PoolState) (other : List Chunk) → AreAlike pool.held other → (p m words : ℕ)
    → found_first (with_held pool other) p m words ≡ found_first pool p m words
found_alike pool other alike p m words = ap (found_among pool p m words) (same_free pool other alike)

pub picked_alike : (pool : PoolState) (other : List Chunk) → AreAlike pool.held other → (p m words : ℕ)
    → chunk_picked (with_held pool other) p m words ≡ chunk_picked pool p m words
picked_alike pool other alike p m words =
    ap (λ (part : Span).
    record {
      start = part.start;
      level = max part.level p;
      front = front_for pool.limits.policy (size_of (max part.level p)) words;
    })
    (found_alike pool other alike p m words)

-- The granules needed, and whether they pass the limit.
pub needed_alike : (pool : PoolState) (other : List Chunk) → AreAlike pool.held other → (p m words : ℕ)
    → granules_needed (with_held pool other) p m words ≡ granules_needed pool p m words
needed_alike pool other alike p m words =
    ap (λ (chunk : Chunk). if keeps pool.limits.policy then granules_missing pool chunk else granules_for
    (granule_in pool) words)
    (picked_alike pool other alike p m words)

pub commit_limit_alike : (pool : PoolState) (other : List Chunk) → AreAlike pool.held other → (p m words : ℕ)
    → meets_commit_limit (with_held pool other) p m words ≡ meets_commit_limit pool p m words
commit_limit_alike pool other alike p m words =
    ap (λ b. not b && not (needs_none (with_held pool other) m words) && nat_lt pool.limits.granules
    (committed_count pool + granules_needed (with_held pool other) p m words))
    (reserve_limit_alike pool other alike m)
    ∙ ap (λ b. not (meets_reserve_limit pool m) && not (not (keeps pool.limits.policy) && b)
    && nat_lt pool.limits.granules (committed_count pool + granules_needed (with_held pool other) p m words))
    (committed_room_alike pool other alike m words)
    ∙ ap (λ (need : ℕ). not (meets_reserve_limit pool m) && not (needs_none pool m words) && nat_lt pool.limits.granules
    (committed_count pool + need))
    (needed_alike pool other alike p m words)

-- What a request for a chunk is answered.
abbrev taken_by : PoolState → Bool → Bool → ℕ → Chunk → Result Chunk Refusal
taken_by pool reserve commit need chunk =
    if reserve then Err (ReserveLimit (length pool.slots) (node_limit pool))
    else if commit then Err (CommitLimit (committed_count pool) pool.limits.granules need) else Ok chunk

pub taken_alike : (pool : PoolState) (other : List Chunk) → AreAlike pool.held other → (p m words : ℕ)
    → taken (with_held pool other) p m words ≡ taken pool p m words
taken_alike pool other alike p m words =
    ap (λ b. taken_by pool b (meets_commit_limit moved p m words) (granules_needed moved p m words)
    (chunk_picked moved p m words)) (reserve_limit_alike pool other alike m)
    ∙ ap (λ b. taken_by pool (meets_reserve_limit pool m) b (granules_needed moved p m words)
    (chunk_picked moved p m words)) (commit_limit_alike pool other alike p m words)
    ∙ ap (λ (need : ℕ). taken_by pool (meets_reserve_limit pool m) (meets_commit_limit pool p m words) need
    (chunk_picked moved p m words)) (needed_alike pool other alike p m words)
    ∙ ap (λ (chunk : Chunk). taken_by pool (meets_reserve_limit pool m) (meets_commit_limit pool p m words)
    (granules_needed pool p m words) chunk) (picked_alike pool other alike p m words)
  where
    moved : PoolState
    moved = with_held pool other

-- What a request for a greater front is answered.
pub may_become_parent_alike : (pool : PoolState) (other : List Chunk) → AreAlike pool.held other → (chunk : Chunk)
    → may_become_parent (with_held pool other) chunk ≡ may_become_parent pool chunk
may_become_parent_alike pool other alike chunk =
    ap (λ (parts : List Span). nat_lt 0 chunk.level && is_leader chunk.start chunk.level
    && list_any (λ (part : Span). (part.start == buddy_start chunk.start chunk.level) && (part.level == chunk.level))
    parts) (same_free pool other alike)

pub grown_alike : (pool : PoolState) (other : List Chunk) → AreAlike pool.held other
    → (chunk : Chunk) (total : ℕ) (may_enlarge : Bool)
    → grown (with_held pool other) chunk total may_enlarge ≡ grown pool chunk total may_enlarge
grown_alike pool other alike chunk total may_enlarge =
    ap (λ b. if nat_le total chunk.front then Ok chunk
    else if nat_le total (size_of chunk.level) then within_limit pool (with_front pool chunk total)
    else if nat_le total (2 * size_of chunk.level) && may_enlarge && b then within_limit pool
    (parent_with_front pool chunk total)
    else Err (NoRoom chunk.level)) (may_become_parent_alike pool other alike chunk)

-- The law on alike chunks.
pub alike_answer_the_same : (pool : PoolState) (other : List Chunk) → AreAlike pool.held other
    → AnswersTheSame pool other
alike_answer_the_same pool other alike =
    record { taking = taken_alike pool other alike; growing = grown_alike pool other alike }

-- The sums.
by_level : (count count' : ℕ → ℕ) → ((level : ℕ) → count level ≡ count' level) → (levels : List ℕ)
    → map count levels ≡ map count' levels
by_level count count' same [] = refl
by_level count count' same (level ∷ levels) =
    ap (λ (n : ℕ). n ∷ map count levels) (same level)
    ∙ ap (λ (l : List ℕ). count' level ∷ l) (by_level count count' same levels)

pub sums_alike : (pool : PoolState) (other : List Chunk) (accounts : ℕ) → IsPermutation pool.held other
    → pool_sums (with_held pool other) accounts ≡ pool_sums pool accounts
sums_alike pool other accounts moved =
    ap (λ (l : List ℕ). sums l (free_by_level (with_held pool other)) (capacity_of other) (fronts_of other)) lent
    ∙ ap (λ (l : List ℕ). sums (lent_by_level pool) l (capacity_of other) (fronts_of other)) free
    ∙ ap (λ (n : ℕ). sums (lent_by_level pool) (free_by_level pool) n (fronts_of other))
    (sum_by-IsPermutation (λ (chunk : Chunk). size_of chunk.level) pool.held other moved)
    ∙ ap (λ (n : ℕ). sums (lent_by_level pool) (free_by_level pool) (capacity_of pool.held) n)
    (sum_by-IsPermutation (λ (chunk : Chunk). chunk.front) pool.held other moved)
  where
    sums : List ℕ → List ℕ → ℕ → ℕ → PoolSums
    sums lent free capacity fronts = record {
      nodes = length pool.slots;
      granules = length pool.committed;
      lent = lent;
      free = free;
      capacity = capacity;
      fronts = fronts;
      accounts = accounts;
    }

    lent : lent_by_level (with_held pool other) ≡ lent_by_level pool
    lent = by_level (λ level. count_by (λ (chunk : Chunk). chunk.level == level) other)
        (λ level. count_by (λ (chunk : Chunk). chunk.level == level) pool.held)
        (λ level. sum_by-IsPermutation (λ (chunk : Chunk). cond (chunk.level == level) 1 0) pool.held other moved)
        all_levels

    free : free_by_level (with_held pool other) ≡ free_by_level pool
    free = ap (λ (parts : List Span). map (λ level. count_by (λ (part : Span). part.level == level) parts) all_levels)
        (same_free pool other (permuted_are_alike pool.held other moved))

-- Chunks in another order are held too, and the pool is as sound.
pub held_permuted : (policy : Policy) (slots : List ℕ) (held other : List Chunk) → IsPermutation held other
    → AreHeld policy slots held → AreHeld policy slots other
held_permuted policy slots held other moved h = record {
  parts = All-permutation (λ (chunk : Chunk). IsPart chunk.start chunk.level) held other moved h.parts;
  fronts = All-permutation (HasFront policy) held other moved h.fronts;
  reserved = sym (all_permuted (λ (chunk : Chunk). is_reserved slots (slot_of chunk.start))) ∙ h.reserved;
  apart = apart-permuted (map words_of held) (map words_of other) (IsPermutation-map words_of held other moved) h.apart;
}
  where
    as_none : (test : Chunk → Bool) (chunks : List Chunk)
        → list_all test chunks ≡ not (list_any (λ chunk. not (test chunk)) chunks)
    as_none test [] = refl
    as_none test (chunk ∷ chunks) =
        ap (λ b. test chunk && b) (as_none test chunks) ∙ both (test chunk) (list_any (λ c. not (test c)) chunks)
      where
        both : (a b : Bool) → (a && not b) ≡ not (not a || b)
        both true b = refl
        both false b = refl

    all_permuted : (test : Chunk → Bool) → list_all test held ≡ list_all test other
    all_permuted test = as_none test held ∙ ap not (permuted_are_alike held other moved (λ chunk. not (test chunk)))
        ∙ sym (as_none test other)

pub sound_permuted : (pool : PoolState) (other : List Chunk) → IsPermutation pool.held other → IsSoundPool pool
    → IsSoundPool (with_held pool other)
sound_permuted pool other moved sound = record {
  held = held_permuted pool.limits.policy pool.slots pool.held other moved sound.held;
  slots = sound.slots;
  below = sound.below;
  committed = sound.committed ∙ sym (committed_alike pool other (permuted_are_alike pool.held other moved));
  granules = sound.granules;
  reserved = sound.reserved;
}
