-- What a request for a chunk is answered: a part that meets no chunk, with a front by the rule, in
-- a reserved slot or where one more may be reserved, and within the limit of granules.
use Rattle.std.proofs.Common.{◌≡◌, ◌≤◌, ◌<◌, ◌+◌, ◌*◌, ℕ, Bool, true, false, not, ◌&&◌, [], length, sym, ap, ◌∙◌, subst}
use Rattle.std.proofs.Common.{arith, inl, inr, max}
use Rattle.std.specs.Prelude.{◌==◌, ◌⊎◌, Ok}
use Rattle.std.specs.List.{Any}
use Rattle.std.proofs.lemmas.Bool.{and_parts, cases_eq, both_ways, eqb-true, eq-eqb, false_from_ne_true}
use Rattle.std.proofs.lemmas.List.Elements.{recursion_from_All}
use Rattle.std.proofs.lemmas.List.Folds.{Any-from_list_any}
use Rattle.std.proofs.lemmas.Map.Keys.{sorted_from_strictly_increasing}
use Rattle.ms_base.specs.declared.span.Chunk.{Chunk}
use Rattle.ms_base.specs.declared.span.Span.{Span}
use Rattle.ms_base.specs.Level.{size_of, highest_level}
use Rattle.ms_base.specs.Part.{IsPart, slot_of, is_reserved, node_words}
use Rattle.ms_base.specs.Front.{HasFront}
use Rattle.ms_base.specs.FreeParts.{free_parts}
use Rattle.ms_base.specs.Held.{meets_chunk}
use Rattle.ms_base.specs.Laws.{IsFound}
use Rattle.ms_base.specs.State.{PoolState}
use Rattle.ms_base.specs.PoolSteps.Pick.{candidates, found_first, lowest_unreserved, new_root, picked}
use Rattle.ms_base.specs.PoolSteps.Causes.{committed_count, granules_missing, has_room, meets_reserve_limit, node_limit}
use Rattle.ms_base.specs.PoolSteps.{taken}
use Rattle.ms_base.specs.Good.{IsSoundPool}
use Rattle.ms_base.proofs.free.HalvesLemmas.{size_falls}
use Rattle.ms_base.proofs.free.PickLemmas.{found_is_free_or_new, picked_serves}
use Rattle.ms_base.proofs.free.RoomLemmas.{lowest_is_clear}
use Rattle.ms_base.proofs.granules.FrontLemmas.{has_front_for}
use Rattle.ms_base.proofs.granules.UnreservedLemmas.{lowest_is_not_reserved}
use Rattle.ms_base.proofs.granules.TakingLimitLemmas.{IsTaken, taken_is, taking_keeps_the_limit}
use Rattle.ms_base.proofs.granules.EnoughLemmas.{picked_is_part}
use Rattle.ms_pool.proofs.ledger.FoundLemmas.{room_is_found, lowest_within, new_slot_is_clear}

-- A slot in which a chunk may be lent: a reserved one, or one more.
abbrev pub HasSlot : PoolState → ℕ → Type 0
HasSlot pool slot =
    (is_reserved pool.slots slot ≡ true) ⊎ ((slot ≤ length pool.slots) × (length pool.slots < node_limit pool))

-- A chunk that the pool may lend besides those held.
pub record IsLendable (pool : PoolState) (chunk : Chunk) : Type 0 where
  pub placed : IsPart chunk.start chunk.level
  pub front : HasFront pool.limits.policy chunk
  pub clear : meets_chunk pool.held chunk.start chunk.level ≡ false
  pub slot : HasSlot pool (slot_of chunk.start)
  pub within : committed_count pool + granules_missing pool chunk ≤ pool.limits.granules

-- Where a part lies, that is picked: clear, and in such a slot.
record LiesWell (pool : PoolState) (start level : ℕ) : Type 0 where
  clear : meets_chunk pool.held start level ≡ false
  slot : HasSlot pool (slot_of start)

in_found : (pool : PoolState) (p m words : ℕ) → p ≤ m → m ≤ highest_level → IsFound pool m (found_first pool p m words)
    → LiesWell pool (picked pool p m words).start (picked pool p m words).level
in_found pool p m words h k found =
    let some : Any (λ (other : Span). ((other.start == part.start) && (other.level == part.level)) ≡ true)
    (free_parts pool.held pool.slots) =
    Any-from_list_any (λ (other : Span). (other.start == part.start) && (other.level == part.level))
    (free_parts pool.held pool.slots) found.free in
    let both = and_parts (some.1.start == part.start) (some.1.level == part.level) some.4 in
    let start : some.1.start ≡ part.start = eqb-true some.1.start part.start both.0 in
    let level : some.1.level ≡ part.level = eqb-true some.1.level part.level both.1 in
    let clear =
    lowest_is_clear pool.held pool.slots some.1 (max part.level p) (some.0, some.2, some.3) (omega (arith, level))
    (omega (arith, found.serves)) in
    subst (λ (n : ℕ). LiesWell pool n (max part.level p)) start
    (record { clear = clear.empty; slot = inl clear.reserved })
  where
    part : Span
    part = found_first pool p m words

-- A new root: no free part is large enough, so the nodes are not used up.
pub slot_of_root : (n : ℕ) → slot_of (n * node_words) ≡ n
slot_of_root n = omega arith

is_room_left : (room : Bool) (slots limit : ℕ) → room ≡ false → (not room && (slots == limit)) ≡ false → slots ≤ limit
    → slots < limit
is_room_left true slots limit none unmet h = absurd (cc)
is_room_left false slots limit none unmet h = elim (cases_eq slots limit) [
  | inl same ↦ absurd (both_ways (slots == limit) unmet (eq-eqb slots limit same))
  | inr other ↦ omega (arith, other)
]

in_new_root : (pool : PoolState) (p m words : ℕ) → p ≤ m → m ≤ highest_level → IsSoundPool pool
    → meets_reserve_limit pool m ≡ false
    → (candidates pool p m words ≡ []) × (found_first pool p m words ≡ new_root pool)
    → LiesWell pool (picked pool p m words).start (picked pool p m words).level
in_new_root pool p m words h k sound unmet none = record {
  clear = new_slot_is_clear pool.slots pool.held (picked pool p m words).start (picked pool p m words).level
      (recursion_from_All (λ (chunk : Chunk). IsPart chunk.start chunk.level) pool.held sound.held.parts)
      sound.held.reserved
      (picked_is_part pool p m words h k)
      (ap (is_reserved pool.slots) at ∙ lowest_is_not_reserved pool.slots
      (sorted_from_strictly_increasing pool.slots sound.slots));
  slot = inr (
    omega (arith, at, lowest_within pool.slots),
    is_room_left (has_room pool m) (length pool.slots)
        (node_limit pool) no_room unmet sound.reserved,
  );
}
  where
    at : slot_of (picked pool p m words).start ≡ lowest_unreserved pool.slots
    at = ap (λ (one : Span). slot_of one.start) none.1 ∙ slot_of_root (lowest_unreserved pool.slots)

    no_room : has_room pool m ≡ false
    no_room = false_from_ne_true (has_room pool m) (λ room. room_is_found pool p m words room none.0)

-- So the chunk that a request is lent.
pub taken_is_lendable : (pool : PoolState) (p m words : ℕ) (chunk : Chunk) → IsSoundPool pool
    → p ≤ m → m ≤ highest_level
    → 1 ≤ words
    → words ≤ size_of m
    → taken pool p m words ≡ Ok chunk → IsLendable pool chunk
taken_is_lendable pool p m words chunk sound h k some fits is = subst (IsLendable pool) (sym its.is) (record {
  placed = picked_is_part pool p m words h k;
  front = has_front_for pool.limits.policy (picked pool p m words).start (picked pool p m words).level words some
      (omega (arith, fits, size_falls (picked pool p m words).level m (picked_serves pool p m words h).1));
  clear = lies.clear;
  slot = lies.slot;
  within = subst (λ (one : Chunk). committed_count pool + granules_missing pool one ≤ pool.limits.granules) its.is
      (taking_keeps_the_limit pool p m words chunk sound h k some fits is);
})
  where
    its : IsTaken pool p m words chunk
    its = taken_is pool p m words chunk is

    lies : LiesWell pool (picked pool p m words).start (picked pool p m words).level
    lies = elim (found_is_free_or_new pool p m words h) [
      | inl found ↦ in_found pool p m words h k found
      | inr none ↦ in_new_root pool p m words h k sound its.room none
    ]
