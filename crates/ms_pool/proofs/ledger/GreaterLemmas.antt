-- A chunk that is grown: what it is, and that it takes in no other, among whatever chunks.
use Rattle.std.proofs.Common.{◌≡◌, ◌≤◌, ◌<◌, ◌+◌, ◌*◌, ℕ, Bool, true, false, ◌&&◌, List, [], ◌∷◌, ◌++◌, map, refl, sym}
use Rattle.std.proofs.Common.{ap, ◌∙◌, subst, arith, inl, inr}
use Rattle.std.specs.Prelude.{◌⊎◌, nat_le, nat_lt, Result, Ok, Err, if◌then◌else◌}
use Rattle.std.specs.List.{Contains}
use Rattle.std.proofs.lemmas.Bool.{and_parts, or_parts, or_from, leb-true, ltb-true}
use Rattle.std.proofs.lemmas.List.{map-append}
use Rattle.ms_base.specs.declared.span.Chunk.{Chunk}
use Rattle.ms_base.specs.declared.refusal.Refusal.{Refusal}
use Rattle.ms_base.specs.declared.refusal.Refusal.TheVariants.{CommitLimit, NoRoom}
use Rattle.ms_base.specs.Interval.{meet, meets_any, are_apart}
use Rattle.ms_base.specs.Level.{size_of, highest_level}
use Rattle.ms_base.specs.Part.{IsPart, is_leader, buddy_start}
use Rattle.ms_base.specs.Front.{HasFront}
use Rattle.ms_base.specs.Held.{words_of, meets_chunk}
use Rattle.ms_base.specs.State.{PoolState}
use Rattle.ms_base.specs.PoolSteps.Causes.{committed_count, granules_missing}
use Rattle.ms_base.specs.PoolSteps.{grown, is_free, may_become_parent, within_limit, with_front, parent_with_front}
use Rattle.ms_base.specs.Transition.{IsGrown}
use Rattle.ms_base.specs.Laws.Sum.{GrowsWell}
use Rattle.ms_base.specs.Good.{IsSoundPool}
use Rattle.ms_base.proofs.arena.GrownLemmas.{GrowsClear, clear_from_runs, parent_clear, parent_size}
use Rattle.ms_base.proofs.granules.GranuleGrowingLemmas.{growing_keeps_the_limit, growing_is_clear}
use Rattle.ms_base.proofs.machine.BlocksApartLemmas.{middle_is_clear}
use Rattle.ms_base.proofs.runs.ApartLemmas.{apart-rest_of, apart-with, list_any-rest_of, meet_turned}
use Rattle.ms_pool.specs.Lending.{MayBeParent, reaching}

-- A held chunk that is grown: at its span, with a front that is no smaller, and within the limit.
pub record IsGreater (pool : PoolState) (was is : Chunk) : Type 0 where
  pub start : is.start ≡ was.start
  pub higher : was.front ≤ is.front
  pub placed : IsPart is.start is.level
  pub front : HasFront pool.limits.policy is
  pub within : committed_count pool + granules_missing pool is ≤ pool.limits.granules
  pub clear : GrowsClear pool.held was is

pub grown_is_greater : (pool : PoolState) (was is : Chunk) (total : ℕ) (may_enlarge : Bool) → IsSoundPool pool
    → Contains pool.held was
    → grown pool was total may_enlarge ≡ Ok is → IsGreater pool was is
grown_is_greater pool was is total may_enlarge sound there answered = record {
  start = start well.changes;
  higher = higher well.changes;
  placed = well.placed;
  front = well.front_rule;
  within = well.within;
  clear = growing_is_clear pool was is total may_enlarge sound there answered;
}
  where
    well : GrowsWell pool was is total
    well = growing_keeps_the_limit pool was is total may_enlarge sound there answered

    start : (is ≡ was) ⊎ IsGrown was is → is.start ≡ was.start
    start (inl same) = ap (λ (one : Chunk). one.start) same
    start (inr grows) = grows.start

    higher : (is ≡ was) ⊎ IsGrown was is → was.front ≤ is.front
    higher (inl same) = omega (arith, ap (λ (one : Chunk). one.front) same)
    higher (inr grows) = omega (arith, grows.front)

-- It is the chunk that reaches the words, and becomes its parent only where it may.
abbrev answer : Chunk → Result Chunk Refusal
answer chunk = Ok chunk

same_chunk : (a b : Chunk) → answer a ≡ answer b → b ≡ a
same_chunk a b e = cc

within_is : (pool : PoolState) (chunk answered : Chunk) → within_limit pool chunk ≡ Ok answered → answered ≡ chunk
within_is pool chunk answered is =
    go (nat_le (committed_count pool + granules_missing pool chunk) pool.limits.granules) is
  where
    go : (b : Bool)
        → (if b then Ok chunk else Err
        (CommitLimit (committed_count pool) pool.limits.granules (granules_missing pool chunk))) ≡ Ok answered
        → answered ≡ chunk
    go true is = same_chunk chunk answered is
    go false is = absurd (cc)

pub record IsReached (pool : PoolState) (was is : Chunk) (total : ℕ) (may_enlarge : Bool) : Type 0 where
  pub is_reaching : is ≡ reaching pool.limits.policy was total
  pub enlarged : size_of was.level < total → MayBeParent was total may_enlarge

pub grown_reaches : (pool : PoolState) (was is : Chunk) (total : ℕ) (may_enlarge : Bool) → was.front ≤ size_of was.level
    → grown pool was total may_enlarge ≡ Ok is → IsReached pool was is total may_enlarge
grown_reaches pool was is total may_enlarge front answered =
    go (nat_le total was.front) (nat_le total (size_of was.level))
    (nat_le total (2 * size_of was.level) && may_enlarge && may_become_parent pool was) refl refl refl answered
  where
    go : (a b c : Bool) → nat_le total was.front ≡ a → nat_le total (size_of was.level) ≡ b
        → (nat_le total (2 * size_of was.level) && may_enlarge && may_become_parent pool was) ≡ c
        → (if a then Ok was else if b then within_limit pool (with_front pool was total) else if c then within_limit
        pool (parent_with_front pool was total) else Err (NoRoom was.level)) ≡ Ok is
        → IsReached pool was is total may_enlarge
    go true b c e f g is_answer =
        record {
          is_reaching = rw e (same_chunk was is is_answer);
          enlarged = λ more. absurd (omega (arith, more, front, leb-true total was.front e));
        }
    go false true c e f g is_answer =
        record {
          is_reaching = rw (e, f) (within_is pool (with_front pool was total) is is_answer);
          enlarged = λ more. absurd (omega (arith, more, leb-true total (size_of was.level) f));
        }
    go false false true e f g is_answer =
        let outer = and_parts (nat_le total (2 * size_of was.level) && may_enlarge) (may_become_parent pool was) g in
        let inner = and_parts (nat_le total (2 * size_of was.level)) may_enlarge outer.0 in
        let leads =
        and_parts (nat_lt 0 was.level && is_leader was.start was.level)
        (is_free pool (buddy_start was.start was.level) was.level) outer.1 in
        let root = and_parts (nat_lt 0 was.level) (is_leader was.start was.level) leads.0 in
        record {
          is_reaching = rw (e, f) (within_is pool (parent_with_front pool was total) is is_answer);
          enlarged =
              λ more. record {
                may = inner.1;
                no_root = ltb-true 0 was.level root.0;
                leader = root.1;
                fits = leb-true total (2 * size_of was.level) inner.0;
              };
        }
    go false false false e f g is_answer = absurd (cc)

pub runs_from_clear : (chunk : Chunk) (others : List Chunk) → meets_chunk others chunk.start chunk.level ≡ false
    → meets_any (words_of chunk) (map words_of others) ≡ false
runs_from_clear chunk [] h = refl
runs_from_clear chunk (c ∷ others) h =
    let both =
    or_parts (meet c.start (size_of c.level) chunk.start (size_of chunk.level))
    (meets_chunk others chunk.start chunk.level) h in
    or_from (meet chunk.start (size_of chunk.level) c.start (size_of c.level))
    (meets_any (words_of chunk) (map words_of others))
    (meet_turned chunk.start (size_of chunk.level) c.start (size_of c.level) ∙ both.0)
    (runs_from_clear chunk others both.1)

pub grown_meets_none : (b : List Chunk) (was is : Chunk) (a : List Chunk)
    → was.level ≤ highest_level → is.start ≡ was.start
    → are_apart (map words_of (b ++ was ∷ a)) ≡ true
    → GrowsClear (b ++ was ∷ a) was is → meets_chunk (b ++ a) is.start is.level ≡ false
grown_meets_none b was is a low same apart grows =
    subst (λ (s : ℕ). meets_chunk (b ++ a) s is.level ≡ false) (sym same) (elim grows [
      | inl level ↦ subst (λ (l : ℕ). meets_chunk (b ++ a) was.start l ≡ false) (sym level) was_clear
      | inr parent ↦ parent_clear (b ++ a) was.start was.level is.level (parent_size was.level is.level low parent.0)
          was_clear
          (list_any-rest_of
          (λ (c : Chunk). meet c.start (size_of c.level) (was.start + size_of was.level) (size_of was.level)) b
          (was ∷ []) a parent.1)
    ])
  where
    was_clear : meets_chunk (b ++ a) was.start was.level ≡ false
    was_clear =
        clear_from_runs was (b ++ a)
        (rw (map-append words_of b a) (middle_is_clear (map words_of b) (words_of was) (map words_of a)
        (rw (map-append words_of b (was ∷ a)) at apart)))

pub grown_is_apart : (b : List Chunk) (was is : Chunk) (a : List Chunk) → was.level ≤ highest_level
    → is.start ≡ was.start
    → are_apart (map words_of (b ++ was ∷ a)) ≡ true
    → GrowsClear (b ++ was ∷ a) was is → are_apart (map words_of (b ++ is ∷ a)) ≡ true
grown_is_apart b was is a low same apart grows =
    rw (map-append words_of b (is ∷ a)) (apart-with (map words_of b) (words_of is) (map words_of a)
    (rw (map-append words_of b a) at (runs_from_clear is (b ++ a) (grown_meets_none b was is a low same apart grows)))
    (apart-rest_of (map words_of b) (words_of was ∷ []) (map words_of a)
    (rw (map-append words_of b (was ∷ a)) at apart)))
