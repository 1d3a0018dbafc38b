-- A held chunk that grows: what it commits, and that what grown answers is a part with a front by
-- the rule, within the limit. The laws on growing use these.
use Rattle.std.proofs.Common.{◌≡◌, ◌≤◌, ◌<◌, ℕ, zero, suc, ◌+◌, ◌-◌, ◌*◌, ◌/◌, ◌%◌, Bool, true, false, cond, not, ◌&&◌}
use Rattle.std.proofs.Common.{◌||◌, Some, List, [], ◌∷◌, length, refl, sym, ap, ◌∙◌, subst, arith, inl, inr}
use Rattle.std.specs.Prelude.{◌==◌, nat_le, nat_lt, slice_get, slice_set, ◌⊎◌, Ok, Err, if◌then◌else◌}
use Rattle.std.specs.List.{Any, Contains, list_any, list_all, filter, range_with_len}
use Rattle.std.proofs.Math.Bool.{or_assoc}
use Rattle.std.proofs.lemmas.Bool.{and_parts, eqb-true, leb-true, ltb-true}
use Rattle.std.proofs.lemmas.Bool.Decides.{nat_tests}
use Rattle.std.proofs.lemmas.List.Elements.{All-contains}
use Rattle.std.proofs.lemmas.List.Folds.{list_any_at, Any-from_list_any}
use Rattle.ms_base.specs.declared.span.Chunk.{Chunk}
use Rattle.ms_base.specs.declared.span.Span.{Span}
use Rattle.ms_base.specs.declared.refusal.Refusal.TheVariants.{CommitLimit, NoRoom}
use Rattle.ms_base.specs.Level.{size_of, highest_level}
use Rattle.ms_base.specs.Part.{IsPart, slot_of, is_reserved, is_leader, buddy_start}
use Rattle.ms_base.specs.Front.{front_for, HasFront}
use Rattle.ms_base.specs.Held.{meets_chunk}
use Rattle.ms_base.specs.FreeParts.{IsFreePart, free_parts}
use Rattle.ms_base.specs.State.{PoolState, committed_now}
use Rattle.ms_base.specs.PoolSteps.Pick.{granule_in, has_committed}
use Rattle.ms_base.specs.PoolSteps.Causes.{committed_count, granules_missing}
use Rattle.ms_base.specs.PoolSteps.{is_free, may_become_parent, with_front, parent_with_front, within_limit, grown}
use Rattle.ms_base.specs.Good.{IsSoundPool}
use Rattle.ms_base.specs.Transition.{IsGrown}
use Rattle.ms_base.specs.Laws.Sum.{with_chunk_grown, GrowsWell}
use Rattle.ms_base.proofs.free.HalvesLemmas.{size_of_halves}
use Rattle.ms_base.proofs.free.RoomLemmas.{listed_is_free}
use Rattle.ms_base.proofs.arena.GrownLemmas.{GrowsClear}
use Rattle.ms_base.proofs.granules.PolicyLemmas.{granule_some}
use Rattle.ms_base.proofs.granules.GranuleLemmas.{committed_where_front}
use Rattle.ms_base.proofs.granules.FreeGranuleLemmas.{meets_bounds, bounds_meet}
use Rattle.ms_base.proofs.granules.FrontLemmas.{front_reaches, has_front_for}
use Rattle.ms_base.proofs.granules.TakingLimitLemmas.{same_chunk}
use Rattle.ms_base.proofs.granules.GranuleCountLemmas.{meets_front, committed_in_slots}
use Rattle.ms_base.proofs.granules.BetweenLemmas.{meets_between, is_between}
use Rattle.ms_base.proofs.granules.GranuleCountLemmas.{count_with_front}

-- A test that the new chunk passes where the old one did.
some_grown : (test : Chunk → Bool) (held : List Chunk) (index : ℕ) (was is : Chunk) → slice_get held index ≡ Some was
    → (test was ≡ true → test is ≡ true) → list_any test (slice_set held index is) ≡ (list_any test held || test is)
some_grown test [] index was is found passes = absurd (cc)
some_grown test (c ∷ held) zero was is found passes = let its : c ≡ was = cc in
    either (test c) (test is) (list_any test held) (λ e. passes (ap test (sym its) ∙ e))
  where
    either : (old new rest : Bool) → (old ≡ true → new ≡ true) → (new || rest) ≡ ((old || rest) || new)
    either true new rest f = let e = f refl in rw e refl
    either false true true f = refl
    either false true false f = refl
    either false false true f = refl
    either false false false f = refl
some_grown test (c ∷ held) (suc index) was is found passes =
    ap (λ b. test c || b) (some_grown test held index was is found passes)
    ∙ sym (or_assoc (test c) (list_any test held) (test is))

each_passes : (test : Chunk → Bool) (held : List Chunk) (index : ℕ) (was : Chunk) → slice_get held index ≡ Some was
    → list_all test held ≡ true → test was ≡ true
each_passes test [] index was found all = absurd (cc)
each_passes test (c ∷ held) zero was found all = let its : c ≡ was =
    cc in ap test (sym its) ∙ (and_parts (test c) (list_all test held) all).0
each_passes test (c ∷ held) (suc index) was found all =
    each_passes test held index was found (and_parts (test c) (list_all test held) all).1

-- A greater front from the same start meets what the smaller one met.
pub meets_further : (granule : ℕ) (was is : Chunk) (k : ℕ) → is.start ≡ was.start → was.front ≤ is.front
    → meets_front granule was k ≡ true → meets_front granule is k ≡ true
meets_further granule was is k same higher meets =
    let bounds = meets_bounds was.start was.front (k * granule) granule meets in
    bounds_meet is.start is.front (k * granule) granule (omega (arith, bounds.0, same))
    (omega (arith, bounds.1, same, higher))

-- A chunk that grows commits what its new front was missing.
pub growing_commits_the_missing : (pool : PoolState) (index : ℕ) (was is : Chunk) → IsSoundPool pool
    → slice_get pool.held index ≡ Some was
    → IsGrown was is → IsPart is.start is.level → is.front ≤ size_of is.level
    → length (committed_now (with_chunk_grown pool index is)) ≡ length pool.committed + granules_missing pool is
growing_commits_the_missing pool index was is sound found grows placed within =
    count_with_front pool (slice_set pool.held index is) pool.slots is sound placed (omega (arith, grows.front)) within
    sound.slots
    (ap (λ (s : ℕ). is_reserved pool.slots (slot_of s)) grows.start
    ∙ each_passes (λ chunk. is_reserved pool.slots (slot_of chunk.start)) pool.held index was found sound.held.reserved)
    (committed_in_slots pool sound)
    (λ k. some_grown (λ (c : Chunk). meets_front (granule_in pool) c k) pool.held index was is found
    (λ meets. meets_further (granule_in pool) was is k grows.start (omega (arith, grows.front)) meets))

-- A held chunk lacks no granule of its front.
none_of : (p : ℕ → Bool) (a n : ℕ) → ((k : ℕ) → a ≤ k → k < a + n → p k ≡ true)
    → length (filter (λ k. not (p k)) (range_with_len a n)) ≡ 0
none_of p a zero each = refl
none_of p a (suc n) each =
    ap (λ b. length
    (cond (not b) (a ∷ filter (λ k. not (p k)) (range_with_len (a + 1) n))
    (filter (λ k. not (p k)) (range_with_len (a + 1) n)))) (each a (omega arith) (omega arith))
    ∙ none_of p (a + 1) n (λ k h m. each k (omega arith) (omega arith))

held_lacks_none : (pool : PoolState) (was : Chunk) → IsSoundPool pool → Contains pool.held was
    → granules_missing pool was ≡ 0
held_lacks_none pool was sound there = none_of (has_committed pool) first (last + 1 - first) (λ k low high.
    committed_where_front pool k sound
    (list_any_at (λ (c : Chunk). meets_front granule c k) pool.held there.0 was there.1
    (ap (λ (c : Chunk). meets_front granule c k) there.2
    ∙ meets_between granule was.start was.front k (granule_some pool.limits.policy) front.some
    ∙ is_between first (last + 1) k low (omega (arith, high)))))
  where
    granule : ℕ
    granule = granule_in pool

    front : HasFront pool.limits.policy was
    front = All-contains (HasFront pool.limits.policy) pool.held was sound.held.fronts there

    first : ℕ
    first = was.start / granule

    last : ℕ
    last = (was.start + was.front - 1) / granule

-- What is answered within the limit.
record IsWithinLimit (pool : PoolState) (chunk answered : Chunk) : Type 0 where
  is : answered ≡ chunk
  within : committed_count pool + granules_missing pool chunk ≤ pool.limits.granules

from_limit : (pool : PoolState) (chunk answered : Chunk) → within_limit pool chunk ≡ Ok answered
    → IsWithinLimit pool chunk answered
from_limit pool chunk answered is = go (nat_le total pool.limits.granules) refl is
  where
    total : ℕ
    total = committed_count pool + granules_missing pool chunk

    go : (b : Bool) → nat_le total pool.limits.granules ≡ b
        → (if b then Ok chunk else Err
        (CommitLimit (committed_count pool) pool.limits.granules (granules_missing pool chunk))) ≡ Ok answered
        → IsWithinLimit pool chunk answered
    go true e is = record { is = sym (same_chunk chunk answered is); within = leb-true total pool.limits.granules e }
    go false e is = absurd (cc)

-- A parent has twice the words.
parent_words : (level : ℕ) → 1 ≤ level → level ≤ highest_level → size_of (level - 1) ≡ 2 * size_of level
parent_words level some low = ap size_of above ∙ size_of_halves (highest_level - level) (omega arith)
    ∙ twice (size_of (highest_level - (highest_level - level))) (size_of level) (ap size_of same)
  where
    above : level - 1 ≡ highest_level - suc (highest_level - level)
    above = omega arith

    same : highest_level - (highest_level - level) ≡ level
    same = omega arith

    twice : (a b : ℕ) → a ≡ b → a + a ≡ 2 * b
    twice a b e = omega arith

-- A front for more words than the chunk had.
grown_front : (pool : PoolState) (was chunk : Chunk) (level total : ℕ)
    → chunk ≡ (record { start = was.start; level = level; front = front_for pool.limits.policy (size_of level) total })
    → (level ≡ was.level) ⊎ (was.level ≡ level + 1) → IsPart was.start level → was.front < total → total ≤ size_of level
    → committed_count pool + granules_missing pool chunk ≤ pool.limits.granules → GrowsWell pool was chunk total
grown_front pool was chunk level total is levels placed more fits within =
    subst (λ (one : Chunk). GrowsWell pool was one total) (sym is) (record {
      changes = inr (record { start = refl; level = levels; front = omega (arith, more, reaches) });
      placed = placed;
      front_rule = has_front_for pool.limits.policy was.start level total (omega (arith, more)) fits;
      reaches = reaches;
      within = subst (λ (one : Chunk). committed_count pool + granules_missing pool one ≤ pool.limits.granules) is within;
    })
  where
    reaches : total ≤ front_for pool.limits.policy (size_of level) total
    reaches = front_reaches pool.limits.policy level total fits

-- A chunk that is grown is one of these, and within the limit.
pub growing_keeps_the_limit : (pool : PoolState) (was chunk : Chunk) (total : ℕ) (may_enlarge : Bool) → IsSoundPool pool
    → Contains pool.held was
    → grown pool was total may_enlarge ≡ Ok chunk → GrowsWell pool was chunk total
growing_keeps_the_limit pool was chunk total may_enlarge sound there is =
    go (nat_le total was.front) (nat_le total (size_of was.level))
    (nat_le total (2 * size_of was.level) && may_enlarge && may_become_parent pool was) refl refl refl is
  where
    placed : IsPart was.start was.level
    placed = All-contains (λ (c : Chunk). IsPart c.start c.level) pool.held was sound.held.parts there

    front : HasFront pool.limits.policy was
    front = All-contains (HasFront pool.limits.policy) pool.held was sound.held.fronts there

    over : (a b : ℕ) → nat_le a b ≡ false → b < a
    over a b e = grind (arith, nat_tests, e)

    stays : total ≤ was.front → GrowsWell pool was was total
    stays h =
        record {
          changes = inl refl;
          placed = placed;
          front_rule = front;
          reaches = h;
          within = omega (arith, sound.granules, held_lacks_none pool was sound there);
        }

    enlarged : was.front < total → nat_le total (2 * size_of was.level) ≡ true → may_become_parent pool was ≡ true
        → within_limit pool (parent_with_front pool was total) ≡ Ok chunk → GrowsWell pool was chunk total
    enlarged more fits may is =
        let limit = from_limit pool (parent_with_front pool was total) chunk is in
        let tests =
        and_parts (nat_lt 0 was.level && is_leader was.start was.level)
        (is_free pool (buddy_start was.start was.level) was.level) may in
        let leads = and_parts (nat_lt 0 was.level) (is_leader was.start was.level) tests.0 in
        let some = ltb-true 0 was.level leads.0 in
        grown_front pool was chunk (was.level - 1) total limit.is (inr (omega (arith, some)))
        (omega (arith, placed.0), eqb-true (was.start % size_of (was.level - 1)) 0 leads.1) more
        (omega (
          arith,
          leb-true total (2 * size_of was.level) fits,
          parent_words was.level (omega (arith, some)) placed.0,
        ))
        (subst (λ (one : Chunk). committed_count pool + granules_missing pool one ≤ pool.limits.granules)
        (sym limit.is) limit.within)

    go : (a b c : Bool) → nat_le total was.front ≡ a → nat_le total (size_of was.level) ≡ b
        → (nat_le total (2 * size_of was.level) && may_enlarge && may_become_parent pool was) ≡ c
        → (if a then Ok was else if b then within_limit pool (with_front pool was total) else if c then within_limit
        pool (parent_with_front pool was total) else Err (NoRoom was.level)) ≡ Ok chunk
        → GrowsWell pool was chunk total
    go true b c e f g is =
        subst (λ (one : Chunk). GrowsWell pool was one total) (same_chunk was chunk is)
        (stays (leb-true total was.front e))
    go false true c e f g is = let limit = from_limit pool (with_front pool was total) chunk is in
        grown_front pool was chunk was.level total limit.is (inl refl) placed (over total was.front e)
        (leb-true total (size_of was.level) f)
        (subst (λ (one : Chunk). committed_count pool + granules_missing pool one ≤ pool.limits.granules)
        (sym limit.is) limit.within)
    go false false true e f g is =
        let tests = and_parts (nat_le total (2 * size_of was.level) && may_enlarge) (may_become_parent pool was) g in
        enlarged (over total was.front e) (and_parts (nat_le total (2 * size_of was.level)) may_enlarge tests.0).0
        tests.1 is
    go false false false e f g is = absurd (cc)

-- A chunk that became its parent had a buddy that met no chunk.
buddy_is_clear : (pool : PoolState) (was : Chunk) → may_become_parent pool was ≡ true
    → meets_chunk pool.held (was.start + size_of was.level) was.level ≡ false
buddy_is_clear pool was may =
    subst (λ (s : ℕ). meets_chunk pool.held s was.level ≡ false) (eqb-true part.start buddy at.0 ∙ other_half)
    (subst (λ (l : ℕ). meets_chunk pool.held part.start l ≡ false) (eqb-true part.level was.level at.1) free.empty)
  where
    buddy : ℕ
    buddy = buddy_start was.start was.level

    tests : ((nat_lt 0 was.level && is_leader was.start was.level) ≡ true) × (is_free pool buddy was.level ≡ true)
    tests = and_parts (nat_lt 0 was.level && is_leader was.start was.level) (is_free pool buddy was.level) may

    leads : was.start % size_of (was.level - 1) ≡ 0
    leads = eqb-true (was.start % size_of (was.level - 1)) 0
        (and_parts (nat_lt 0 was.level) (is_leader was.start was.level) tests.0).1

    found : Any (λ (other : Span). ((other.start == buddy) && (other.level == was.level)) ≡ true)
        (free_parts pool.held pool.slots)
    found = Any-from_list_any (λ (other : Span). (other.start == buddy) && (other.level == was.level))
        (free_parts pool.held pool.slots) tests.1

    part : Span
    part = found.1

    at : ((part.start == buddy) ≡ true) × ((part.level == was.level) ≡ true)
    at = and_parts (part.start == buddy) (part.level == was.level) found.4

    free : IsFreePart pool.held pool.slots part
    free = All-contains (IsFreePart pool.held pool.slots) (free_parts pool.held pool.slots) part
        (listed_is_free pool.held pool.slots) (found.0, found.2, found.3)

    other_half : buddy ≡ was.start + size_of was.level
    other_half = ap (λ (r : ℕ). 2 * (was.start - r) + size_of was.level - was.start) leads
        ∙ upper was.start (size_of was.level)
      where
        upper : (a s : ℕ) → 2 * (a - 0) + s - a ≡ a + s
        upper a s = omega arith

-- So a chunk that is grown takes in no other.
pub growing_is_clear : (pool : PoolState) (was chunk : Chunk) (total : ℕ) (may_enlarge : Bool) → IsSoundPool pool
    → Contains pool.held was
    → grown pool was total may_enlarge ≡ Ok chunk → GrowsClear pool.held was chunk
growing_is_clear pool was chunk total may_enlarge sound there is =
    go (nat_le total was.front) (nat_le total (size_of was.level))
    (nat_le total (2 * size_of was.level) && may_enlarge && may_become_parent pool was) refl is
  where
    go : (a b c : Bool) → (nat_le total (2 * size_of was.level) && may_enlarge && may_become_parent pool was) ≡ c
        → (if a then Ok was else if b then within_limit pool (with_front pool was total) else if c then within_limit
        pool (parent_with_front pool was total) else Err (NoRoom was.level)) ≡ Ok chunk
        → GrowsClear pool.held was chunk
    go true b c g is = inl (ap (λ (one : Chunk). one.level) (sym (same_chunk was chunk is)))
    go false true c g is =
        inl (ap (λ (one : Chunk). one.level) (from_limit pool (with_front pool was total) chunk is).is)
    go false false true g is =
        let may = (and_parts (nat_le total (2 * size_of was.level) && may_enlarge) (may_become_parent pool was) g).1 in
        let some = ltb-true 0 was.level (and_parts (nat_lt 0 was.level) (is_leader was.start was.level)
        (and_parts (nat_lt 0 was.level && is_leader was.start was.level)
        (is_free pool (buddy_start was.start was.level) was.level) may).0).0 in
        let level = ap (λ (one : Chunk). one.level) (from_limit pool (parent_with_front pool was total) chunk is).is in
        inr (omega (arith, level, some), buddy_is_clear pool was may)
    go false false false g is = absurd (cc)
