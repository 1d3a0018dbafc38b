-- Where no free part is large and committed enough, all granules that the picked chunk's front
-- meets are missing, under the policies balanced and aggressive; so one rule decides for all
-- policies.
use Rattle.std.proofs.Common.{◌≡◌, ◌≤◌, ◌<◌, ℕ, zero, suc, ◌+◌, ◌-◌, ◌*◌, ◌/◌, Bool, true, false, cond, not, ◌&&◌}
use Rattle.std.proofs.Common.{◌∷◌, length, refl, sym, ap, ◌∙◌, arith, inl, inr}
use Rattle.std.specs.Prelude.{◌==◌, nat_lt, nat_le, if◌then◌else◌}
use Rattle.std.specs.List.{filter, range_with_len, Contains}
use Rattle.std.proofs.lemmas.Bool.{cases_lt, and_parts, and_from, both_ways, false_from_ne_true}
use Rattle.std.proofs.lemmas.Bool.{eqb-true, le-leb}
use Rattle.std.proofs.lemmas.Bool.Decides.{nat_tests}
use Rattle.std.proofs.lemmas.List.Elements.{All-contains}
use Rattle.std.proofs.lemmas.List.Folds.{list_any_at, Any-from_list_any}
use Rattle.std.proofs.lemmas.Map.Keys.{sorted_from_strictly_increasing}
use Rattle.ms_base.specs.declared.span.Span.{Span}
use Rattle.ms_base.specs.declared.span.Chunk.{Chunk}
use Rattle.ms_base.specs.Policy.{keeps}
use Rattle.ms_base.specs.Interval.{meet}
use Rattle.ms_base.specs.Level.{size_of, highest_level}
use Rattle.ms_base.specs.Part.{node_words, slot_of, is_reserved}
use Rattle.ms_base.specs.Front.{granules_for, HasFront}
use Rattle.ms_base.specs.FreeParts.{IsFreePart, free_parts}
use Rattle.ms_base.specs.State.{PoolState}
use Rattle.ms_base.specs.PoolSteps.Pick.{granule_in, has_committed, is_committed_enough, found_first, picked, chunk_picked}
use Rattle.ms_base.specs.PoolSteps.Pick.{lowest_unreserved}
use Rattle.ms_base.specs.PoolSteps.Causes.{committed_count, has_committed_room, granules_missing, granules_needed, needs_none}
use Rattle.ms_base.specs.PoolSteps.Causes.{meets_reserve_limit, meets_commit_limit}
use Rattle.ms_base.specs.Good.{IsSoundPool}
use Rattle.ms_base.proofs.granules.PolicyLemmas.{granule_some}
use Rattle.ms_base.proofs.free.HalvesLemmas.{size_falls}
use Rattle.ms_base.proofs.free.PickLemmas.{found_is_free_or_new, picked_serves}
use Rattle.ms_base.proofs.free.RoomLemmas.{listed_is_free}
use Rattle.ms_base.proofs.granules.FreeGranuleLemmas.{meets_bounds, bounds_meet}
use Rattle.ms_base.proofs.granules.FrontLemmas.{has_front_for}
use Rattle.ms_base.proofs.granules.CommittedRoomLemmas.{committed_by_size, enough_by_size}
use Rattle.ms_base.proofs.granules.BetweenLemmas.{meets_between, is_between}
use Rattle.ms_base.proofs.granules.NeedLemmas.{quotient_is, Covers, chunk_covers, nothing_missing}
use Rattle.ms_base.proofs.granules.EnoughLemmas.{picked_is_part}
use Rattle.ms_base.proofs.granules.UnreservedLemmas.{lowest_is_not_reserved, none_there}

not_enough : (pool : PoolState) (m words : ℕ) (part : Span) → has_committed_room pool m words ≡ false
    → Contains (free_parts pool.held pool.slots) part → part.level ≤ m
    → is_committed_enough pool words part ≡ false
not_enough pool m words part none listed serves = false_from_ne_true (is_committed_enough pool words part) (λ enough.
    both_ways (has_committed_room pool m words) none
    (list_any_at (λ (other : Span). nat_le other.level m && is_committed_enough pool words other)
    (free_parts pool.held pool.slots) listed.0 part listed.1
    (ap (λ (other : Span). nat_le other.level m && is_committed_enough pool words other) listed.2
    ∙ and_from (nat_le part.level m) (is_committed_enough pool words part) (le-leb part.level m serves) enough)))

in_free_part : (pool : PoolState) (m words : ℕ) (part : Span) (start front : ℕ) → IsSoundPool pool
    → keeps pool.limits.policy ≡ false → has_committed_room pool m words ≡ false
    → Contains (free_parts pool.held pool.slots) part → part.level ≤ m → 1 ≤ words → words ≤ size_of m
    → start ≡ part.start → front ≤ size_of part.level
    → (k : ℕ) → meet start front (k * granule_in pool) (granule_in pool) ≡ true → has_committed pool k ≡ false
in_free_part pool m words part start front sound reclaims none listed serves some fits same within k meets =
    elim (cases_lt (size_of part.level) (granule_in pool)) [
      | inl small ↦
          absurd (both_ways (is_committed_enough pool words part) (not_enough pool m words part none listed serves)
          ((enough_by_size pool part words sound free some (omega (arith, fits, size_falls part.level m serves))).small
          small))
      | inr large ↦ (committed_by_size pool part k sound free wider).large reclaims large
    ]
  where
    free : IsFreePart pool.held pool.slots part
    free = All-contains (IsFreePart pool.held pool.slots) (free_parts pool.held pool.slots) part
        (listed_is_free pool.held pool.slots) listed

    wider : meet part.start (size_of part.level) (k * granule_in pool) (granule_in pool) ≡ true
    wider = let bounds = meets_bounds start front (k * granule_in pool) (granule_in pool) meets in
        bounds_meet part.start (size_of part.level) (k * granule_in pool) (granule_in pool)
        (omega (arith, bounds.0, same)) (omega (arith, bounds.1, same, within))

front_of_picked : (pool : PoolState) (p m words : ℕ) → p ≤ m → 1 ≤ words → words ≤ size_of m
    → HasFront pool.limits.policy (chunk_picked pool p m words)
front_of_picked pool p m words h some fits =
    has_front_for pool.limits.policy (picked pool p m words).start (picked pool p m words).level words some
    (omega (arith, fits, size_falls (picked pool p m words).level m (picked_serves pool p m words h).1))

pub all_missing : (pool : PoolState) (p m words : ℕ) → IsSoundPool pool → keeps pool.limits.policy ≡ false
    → has_committed_room pool m words ≡ false
    → p ≤ m → m ≤ highest_level → 1 ≤ words → words ≤ size_of m
    → (k : ℕ)
    → meet (chunk_picked pool p m words).start (chunk_picked pool p m words).front (k * granule_in pool)
    (granule_in pool) ≡ true → has_committed pool k ≡ false
all_missing pool p m words sound reclaims none h k some fits number meets =
    elim (found_is_free_or_new pool p m words h) [
      | inl found ↦
          let some_part =
          Any-from_list_any (λ (other : Span). (other.start == part.start) && (other.level == part.level))
          (free_parts pool.held pool.slots) found.free in
          let both = and_parts (some_part.1.start == part.start) (some_part.1.level == part.level) some_part.4 in
          let start : some_part.1.start ≡ part.start = eqb-true some_part.1.start part.start both.0 in
          let level : some_part.1.level ≡ part.level = eqb-true some_part.1.level part.level both.1 in
          in_free_part pool m words some_part.1 chunk.start chunk.front sound reclaims none
          (some_part.0, some_part.2, some_part.3) (omega (arith, level, found.serves)) some fits (sym start)
          (omega (
            arith,
            front.within,
            size_falls some_part.1.level chunk.level (omega (arith, level)),
          )) number meets
      | inr fresh ↦ none_there pool chunk sound (picked_is_part pool p m words h k) front.within
          (ap (λ (one : Span). is_reserved pool.slots (slot_of one.start)) fresh.1
          ∙ ap (is_reserved pool.slots) (slot_of_start (lowest_unreserved pool.slots))
          ∙ lowest_is_not_reserved pool.slots (sorted_from_strictly_increasing pool.slots sound.slots)) number meets
    ]
  where
    part : Span
    part = found_first pool p m words

    chunk : Chunk
    chunk = chunk_picked pool p m words

    front : HasFront pool.limits.policy chunk
    front = front_of_picked pool p m words h some fits

    slot_of_start : (n : ℕ) → slot_of (n * node_words) ≡ n
    slot_of_start n = quotient_is (n * node_words) n node_words (omega arith) (omega arith) (omega arith)

-- So the words need as many as are missing.
all_kept : (p : ℕ → Bool) (a n : ℕ) → ((k : ℕ) → a ≤ k → k < a + n → p k ≡ false)
    → length (filter (λ k. not (p k)) (range_with_len a n)) ≡ n
all_kept p a zero none = refl
all_kept p a (suc n) none =
    ap (λ b. length
    (cond (not b) (a ∷ filter (λ k. not (p k)) (range_with_len (a + 1) n))
    (filter (λ k. not (p k)) (range_with_len (a + 1) n)))) (none a (omega arith) (omega arith))
    ∙ omega (arith, all_kept p (a + 1) n (λ k h m. none k (omega arith) (omega arith)))

pub need_is_missing : (pool : PoolState) (p m words : ℕ) → IsSoundPool pool → keeps pool.limits.policy ≡ false
    → has_committed_room pool m words ≡ false
    → p ≤ m → m ≤ highest_level → 1 ≤ words → words ≤ size_of m
    → granules_missing pool (chunk_picked pool p m words) ≡ granules_for (granule_in pool) words
need_is_missing pool p m words sound reclaims none h k some fits =
    all_kept (has_committed pool) first (last + 1 - first) (λ number low high.
    all_missing pool p m words sound reclaims none h k some fits number
    (meets_between granule chunk.start chunk.front number (granule_some pool.limits.policy) front.some
    ∙ is_between first (last + 1) number low (omega (arith, high))))
    ∙ omega (arith, covers.last, covers.count)
  where
    granule : ℕ
    granule = granule_in pool

    chunk : Chunk
    chunk = chunk_picked pool p m words

    front : HasFront pool.limits.policy chunk
    front = front_of_picked pool p m words h some fits

    covers : Covers granule chunk.start chunk.front words
    covers = chunk_covers pool p m words reclaims h k some fits

    first : ℕ
    first = chunk.start / granule

    last : ℕ
    last = (chunk.start + chunk.front - 1) / granule

-- One rule for all policies: where the reserve limit is not met, the commit limit is met exactly
-- where the missing granules would pass it.
pub limit_by_missing : (pool : PoolState) (p m words : ℕ) → IsSoundPool pool → p ≤ m → m ≤ highest_level → 1 ≤ words
    → words ≤ size_of m → meets_reserve_limit pool m ≡ false
    → meets_commit_limit pool p m words
    ≡ nat_lt pool.limits.granules (committed_count pool + granules_missing pool (chunk_picked pool p m words))
limit_by_missing pool p m words sound h k some fits room = by_policy (keeps pool.limits.policy) refl
  where
    limit : ℕ
    limit = pool.limits.granules

    count : ℕ
    count = committed_count pool

    missing : ℕ
    missing = granules_missing pool (chunk_picked pool p m words)

    needs : Bool → ℕ
    needs b = if b then missing else granules_for (granule_in pool) words

    not_over : (most total : ℕ) → total ≤ most → nat_lt most total ≡ false
    not_over most total h = grind (arith, nat_tests, h)

    by_room : keeps pool.limits.policy ≡ false → (b : Bool) → has_committed_room pool m words ≡ b
        → (not (not false && b) && nat_lt limit (count + granules_for (granule_in pool) words))
        ≡ nat_lt limit (count + missing)
    by_room e true there =
        sym (not_over limit (count + missing)
        (omega (arith, sound.granules, nothing_missing pool p m words e h k some fits there)))
    by_room e false none =
        ap (λ (n : ℕ). nat_lt limit (count + n)) (sym (need_is_missing pool p m words sound e none h k some fits))

    by_policy : (b : Bool) → keeps pool.limits.policy ≡ b
        → meets_commit_limit pool p m words ≡ nat_lt limit (count + missing)
    by_policy true e = rw (room, e) refl
    by_policy false e =
        ap (λ r. not r && not (needs_none pool m words) && nat_lt limit (count + granules_needed pool p m words)) room
        ∙ ap (λ b. not (not b && has_committed_room pool m words) && nat_lt limit (count + needs b)) e
        ∙ by_room e (has_committed_room pool m words) refl

pub need_by_missing : (pool : PoolState) (p m words : ℕ) → IsSoundPool pool → p ≤ m → m ≤ highest_level → 1 ≤ words
    → words ≤ size_of m
    → meets_commit_limit pool p m words ≡ true
    → granules_needed pool p m words ≡ granules_missing pool (chunk_picked pool p m words)
need_by_missing pool p m words sound h k some fits met = by_policy (keeps pool.limits.policy) refl
  where
    parts : (r n o : Bool) → (not r && not n && o) ≡ true → n ≡ false
    parts true n o e = absurd (cc)
    parts false true o e = absurd (cc)
    parts false false o e = refl

    some_needed : needs_none pool m words ≡ false
    some_needed =
        parts (meets_reserve_limit pool m) (needs_none pool m words)
        (nat_lt pool.limits.granules (committed_count pool + granules_needed pool p m words)) met

    by_policy : (b : Bool) → keeps pool.limits.policy ≡ b
        → granules_needed pool p m words ≡ granules_missing pool (chunk_picked pool p m words)
    by_policy true e = rw e refl
    by_policy false e =
        ap (λ b. if b then granules_missing pool (chunk_picked pool p m words) else granules_for
        (granule_in pool) words) e
        ∙ sym (need_is_missing pool p m words sound e
        (sym (ap (λ b. not b && has_committed_room pool m words) e) ∙ some_needed) h k some fits)
