-- The slots of a space once a chunk is lent in it: one more at most, and in the class space none.
use Rattle.std.proofs.Common.{◌≡◌, ◌≤◌, ◌<◌, ℕ, true, List, [], ◌∷◌, length, refl, ap, subst, arith, inl, inr}
use Rattle.std.specs.Prelude.{◌==◌}
use Rattle.std.specs.Ordering.{nat_cmp, match_ordering}
use Rattle.std.specs.declared.cmp.Ordering.TheVariants.{Less, Equal, Greater}
use Rattle.std.specs.List.{All, AllByRecursion, list_all, flat_map, filter}
use Rattle.std.specs.List.Sorted.{IsStrictlyIncreasing, IsStrictlySortedBy}
use Rattle.std.specs.BTreeSet.{insert_key}
use Rattle.std.proofs.lemmas.Bool.{or_cases, both_ways, eqb-true, lt-ltb, le-leb}
use Rattle.std.proofs.lemmas.Bool.Decides.{nat_tests}
use Rattle.std.proofs.lemmas.List.Elements.{recursion_from_All}
use Rattle.std.proofs.lemmas.List.FromFn.{length-range_with_len}
use Rattle.std.proofs.lemmas.Map.Keys.{sorted_from_strictly_increasing}
use Rattle.std.proofs.lemmas.Map.Views.{All-insert_key}
use Rattle.ms_base.specs.declared.kind.Space.{Space}
use Rattle.ms_base.specs.declared.kind.Space.TheVariants.{NonClass, Class}
use Rattle.ms_base.specs.declared.span.Chunk.{Chunk}
use Rattle.ms_base.specs.Part.{slot_of, is_reserved}
use Rattle.ms_base.specs.Spaces.{IsSlotOf, is_in, first_class_word}
use Rattle.ms_base.specs.Committed.{granules_of}
use Rattle.ms_base.specs.PoolSteps.Pick.{granule_in, has_committed}
use Rattle.ms_base.specs.PoolSteps.Causes.{node_limit}
use Rattle.ms_base.specs.PoolSteps.{slots_with}
use Rattle.ms_base.proofs.granules.GranuleCountLemmas.{committed_in_slots}
use Rattle.ms_base.proofs.granules.SlotGranuleLemmas.{committed_with_slot, not_there}
use Rattle.ms_base.proofs.machine.SlotLemmas.{length_with, reserved_with, slots_rise_with}
use Rattle.ms_pool.specs.Ledger.{Loan, Ledger, IsSoundLedger, state_in}
use Rattle.ms_pool.proofs.ledger.SoundLemmas.{changed}
use Rattle.ms_pool.proofs.ledger.TakenLemmas.{HasSlot}
use Rattle.ms_base.proofs.machine.AddedLemmas.{still_reserved}

-- What holds of all slots holds of a reserved one.
at_reserved : (P : ℕ → Type 0) (slots : List ℕ) (slot : ℕ) → is_reserved slots slot ≡ true → AllByRecursion P slots
    → P slot
at_reserved P [] slot there all = absurd (cc)
at_reserved P (s ∷ slots) slot there all = elim (or_cases (s == slot) (is_reserved slots slot) there) [
  | inl here ↦ subst P (eqb-true s slot here) all.0
  | inr later ↦ at_reserved P slots slot later all.1
]

-- A reserved slot is not added again.
pub same_with : (slots : List ℕ) (slot : ℕ) → IsStrictlySortedBy nat_cmp slots → is_reserved slots slot ≡ true
    → insert_key nat_cmp slots slot ≡ slots
unfolding IsStrictlySortedBy
same_with [] slot sorted there = absurd (cc)
same_with (s ∷ slots) slot sorted there =
    elim (nat_cmp slot s) as (λ o. nat_cmp slot s ≡ o
    → match_ordering o (slot ∷ s ∷ slots) (s ∷ slots) (s ∷ insert_key nat_cmp slots slot) ≡ s ∷ slots) [
      | Less ↦ λ less. absurd (elim (or_cases (s == slot) (is_reserved slots slot) there) [
        | inl here ↦ below_itself slot s less (eqb-true s slot here)
        | inr later ↦ both_ways (is_reserved slots slot) (not_there s slots slot (below slot s less) sorted.0) later
      ])
      | Equal ↦ λ equal. refl
      | Greater ↦ λ more. elim (or_cases (s == slot) (is_reserved slots slot) there) [
        | inl here ↦ absurd (above_itself slot s more (eqb-true s slot here))
        | inr later ↦ ap (λ l. s ∷ l) (same_with slots slot sorted.1 later)
      ]
    ] refl
  where
    below : (a b : ℕ) → nat_cmp a b ≡ Less → a < b
    below a b e = grind (arith, nat_tests, e)

    below_itself : (a b : ℕ) → nat_cmp a b ≡ Less → b ≡ a → ⊥
    below_itself a b e same = grind (arith, nat_tests, e)

    above_itself : (a b : ℕ) → nat_cmp a b ≡ Greater → b ≡ a → ⊥
    above_itself a b e same = grind (arith, nat_tests, e)

-- The slot of a chunk that is lent is one of its space.
pub slot_of_space : (space : Space) (old : Ledger) (slot : ℕ) → IsSoundLedger old → HasSlot (state_in space old) slot
    → IsSlotOf space slot
slot_of_space NonClass old slot sound (inl reserved) =
    at_reserved (IsSlotOf NonClass) old.slots slot reserved
    (recursion_from_All (IsSlotOf NonClass) old.slots (sound.spaces NonClass).below)
slot_of_space NonClass old slot sound (inr more) = omega (arith, more.0, more.1, sound.nodes.1)
slot_of_space Class old slot sound (inl reserved) =
    at_reserved (IsSlotOf Class) (state_in Class old).slots slot reserved
    (recursion_from_All (IsSlotOf Class) (state_in Class old).slots (sound.spaces Class).below)
slot_of_space Class old slot sound (inr more) =
    absurd (omega (arith, more.1, length-range_with_len 64 old.limits.class_nodes))

pub starts_in : (space : Space) (start : ℕ) → IsSlotOf space (slot_of start) → is_in space start ≡ true
starts_in NonClass start slot = below start slot
  where
    below : (start : ℕ) → IsSlotOf NonClass (slot_of start) → is_in NonClass start ≡ true
    below start slot = lt-ltb start first_class_word (omega arith)
starts_in Class start slot = le-leb first_class_word start (omega (arith, slot.0))

-- The slots of the space, with that of a chunk.
pub record AreWithSlot (space : Space) (old : Ledger) (slots : List ℕ) (slot : ℕ) : Type 0 where
  pub rising : IsStrictlyIncreasing slots
  pub below : All (IsSlotOf space) slots
  pub reserved : length slots ≤ node_limit (state_in space old)
  pub has : is_reserved slots slot ≡ true
  pub committed : filter (has_committed (state_in space old))
      (flat_map (granules_of (granule_in (state_in space old))) slots) ≡ (state_in space old).committed
  pub still : (held : List Chunk)
      → list_all (λ (chunk : Chunk). is_reserved (state_in space old).slots (slot_of chunk.start)) held ≡ true
      → list_all (λ (chunk : Chunk). is_reserved slots (slot_of chunk.start)) held ≡ true

pub with_slot : (space : Space) (old : Ledger) (loans : List Loan) (start : ℕ) → IsSoundLedger old
    → HasSlot (state_in space old) (slot_of start)
    → AreWithSlot space old (state_in space (changed space old loans (slots_with old.slots start))).slots
    (slot_of start)
with_slot NonClass old loans start sound has = record {
  rising = slots_rise_with old.slots (slot_of start) (sound.spaces NonClass).slots;
  below = All-insert_key nat_cmp (slot_of start) (IsSlotOf NonClass) old.slots (sound.spaces NonClass).below
      (slot_of_space NonClass old (slot_of start) sound has);
  reserved = few has;
  has = reserved_with old.slots (slot_of start);
  committed = committed_with_slot (state_in NonClass old) (slot_of start) (sound.spaces NonClass);
  still = λ held h. still_reserved old.slots (slot_of start) held h;
}
  where
    few : HasSlot (state_in NonClass old) (slot_of start) → length (slots_with old.slots start) ≤ old.limits.nodes
    few (inl reserved) = omega (
      arith,
      ap length
          (same_with old.slots (slot_of start) (sorted_from_strictly_increasing old.slots (sound.spaces NonClass).slots)
          reserved),
      (sound.spaces NonClass).reserved,
    )
    few (inr more) = omega (arith, length_with old.slots (slot_of start), more.1)
with_slot Class old loans start sound has = record {
  rising = (sound.spaces Class).slots;
  below = (sound.spaces Class).below;
  reserved = (sound.spaces Class).reserved;
  has = reserved has;
  committed = committed_in_slots (state_in Class old) (sound.spaces Class);
  still = λ held h. h;
}
  where
    reserved : HasSlot (state_in Class old) (slot_of start)
        → is_reserved (state_in Class old).slots (slot_of start) ≡ true
    reserved (inl there) = there
    reserved (inr more) = absurd (omega (arith, more.1, length-range_with_len 64 old.limits.class_nodes))
