-- A slot in which a chunk may be lent, and the nodes once it is reserved.
use Rattle.std.proofs.Common.{◌≡◌, ◌<◌, ◌≤◌, ℕ, ◌+◌, Bool, true, false, cond, ◌||◌, ◌==◌, length, refl, sym, ap, ◌∙◌}
use Rattle.std.proofs.Common.{arith, inl, inr, eq-eqb}
use Rattle.std.specs.Ordering.{nat_cmp}
use Rattle.std.specs.BTreeSet.{insert_key}
use Rattle.std.proofs.lemmas.Bool.{both_ways, false_from_ne_true, ltb-true, leb-true, or_left, or_right}
use Rattle.std.proofs.lemmas.Bool.Decides.{nat_tests}
use Rattle.std.proofs.lemmas.List.Folds.{list_any-append}
use Rattle.std.proofs.lemmas.Map.Keys.{sorted_from_strictly_increasing}
use Rattle.ms_base.specs.declared.kind.Space.{Space}
use Rattle.ms_base.specs.declared.kind.Space.TheVariants.{NonClass, Class}
use Rattle.ms_base.specs.Part.{is_reserved, slot_of}
use Rattle.ms_base.specs.PoolSteps.Pick.{lowest_unreserved}
use Rattle.ms_base.specs.Spaces.{by_space, class_slots, is_in, first_class_word}
use Rattle.ms_base.proofs.granules.UnreservedLemmas.{lowest_is_not_reserved}
use Rattle.ms_commit.specs.NumberSet.{is_in_range}
use Rattle.ms_commit.specs.Nodes.{NodesState, AreSound, all_slots, slots_of, with_slot}
use Rattle.ms_commit.proofs.NodesLemmas.{member_below, reserved_either, reserved_low}
use Rattle.ms_commit.proofs.RangeLemmas.{is_among-range}
use Rattle.ms_commit.proofs.SameLemmas.{is_among-insert_key}
use Rattle.ms_pool.specs.Keeping.{IsOpen, with_reserved}
use Rattle.ms_pool.proofs.ledger.FoundLemmas.{lowest_within}
use Rattle.ms_pool.proofs.ledger.LedgerSlotLemmas.{same_with}

-- A slot that is reserved in a space is reserved.
pub reserved_of_space : (space : Space) (nodes : NodesState) (slot : ℕ) → is_reserved (slots_of space nodes) slot ≡ true
    → is_reserved (all_slots nodes) slot ≡ true
reserved_of_space NonClass nodes slot there =
    list_any-append (λ other. other == slot) nodes.slots (class_slots nodes.class_slots)
    ∙ or_left (is_reserved nodes.slots slot) (is_reserved (class_slots nodes.class_slots) slot) there
reserved_of_space Class nodes slot there =
    list_any-append (λ other. other == slot) nodes.slots (class_slots nodes.class_slots)
    ∙ or_right (is_reserved nodes.slots slot) (is_reserved (class_slots nodes.class_slots) slot) there

pub within_range : (first count k : ℕ) → is_in_range first count k ≡ true → k < first + count
within_range first count k e = grind (arith, nat_tests, e)

-- An open slot is below the last of the class space's.
pub open_is_low : (space : Space) (nodes : NodesState) (slot : ℕ) → AreSound nodes → nodes.limits.nodes ≤ 64
    → IsOpen space nodes slot → slot < 64 + nodes.class_slots
open_is_low NonClass nodes slot sound few (inl there) =
    omega (arith, member_below 64 nodes.slots slot sound.slots.below there)
open_is_low Class nodes slot sound few (inl there) =
    within_range 64 nodes.class_slots slot (sym (is_among-range 64 nodes.class_slots slot) ∙ there)
open_is_low space nodes slot sound few (inr fresh) = omega (arith, fresh.1, fresh.2, few, lowest_within nodes.slots)

-- Where it isn't reserved it is the lowest, and one more may be.
pub open_where_fresh : (space : Space) (nodes : NodesState) (slot : ℕ) → IsOpen space nodes slot
    → is_reserved (all_slots nodes) slot ≡ false
    → (slot ≡ lowest_unreserved nodes.slots) × (length nodes.slots < nodes.limits.nodes)
open_where_fresh space nodes slot (inl there) gone =
    absurd (both_ways (is_reserved (all_slots nodes) slot) gone (reserved_of_space space nodes slot there))
open_where_fresh space nodes slot (inr fresh) gone = (fresh.1, fresh.2)

fresh_is_not : (nodes : NodesState) (slot : ℕ) → AreSound nodes → nodes.limits.nodes ≤ 64
    → slot ≡ lowest_unreserved nodes.slots → length nodes.slots < nodes.limits.nodes
    → is_reserved (all_slots nodes) slot ≡ false
fresh_is_not nodes slot sound few lowest left =
    reserved_low nodes slot (omega (arith, lowest, left, few, lowest_within nodes.slots))
    ∙ ap (is_reserved nodes.slots) lowest
    ∙ lowest_is_not_reserved nodes.slots (sorted_from_strictly_increasing nodes.slots sound.slots.rising)

-- The slots once it is reserved.
pub slots_once_open : (space : Space) (nodes : NodesState) (slot : ℕ) → AreSound nodes → nodes.limits.nodes ≤ 64
    → IsOpen space nodes slot
    → (with_reserved nodes slot).slots ≡ by_space space (insert_key nat_cmp nodes.slots slot) nodes.slots
slots_once_open NonClass nodes slot sound few (inl there) =
    ap (λ b. (pick b).slots) (reserved_of_space NonClass nodes slot there)
    ∙ sym (same_with nodes.slots slot (sorted_from_strictly_increasing nodes.slots sound.slots.rising) there)
  where
    pick : Bool → NodesState
    pick b = cond b nodes (with_slot nodes slot)
slots_once_open Class nodes slot sound few (inl there) =
    ap (λ b. (pick b).slots) (reserved_of_space Class nodes slot there)
  where
    pick : Bool → NodesState
    pick b = cond b nodes (with_slot nodes slot)
slots_once_open NonClass nodes slot sound few (inr fresh) =
    ap (λ b. (pick b).slots) (fresh_is_not nodes slot sound few fresh.1 fresh.2)
  where
    pick : Bool → NodesState
    pick b = cond b nodes (with_slot nodes slot)
slots_once_open Class nodes slot sound few (inr fresh) = absurd (no fresh.0)
  where
    no : Class ≡ NonClass → ⊥
    no e = cc

-- What stays, and that the slot is reserved.
pub record ReservesOne (old new : NodesState) (slot : ℕ) : Type 0 where
  pub limits : new.limits ≡ old.limits
  pub granules : new.granules ≡ old.granules
  pub class_slots_are : new.class_slots ≡ old.class_slots
  pub own : is_reserved (all_slots new) slot ≡ true
  pub still : (space : Space) (other : ℕ) → is_reserved (slots_of space old) other ≡ true
      → is_reserved (slots_of space new) other ≡ true

pub reserves_one : (nodes : NodesState) (slot : ℕ) → ReservesOne nodes (with_reserved nodes slot) slot
reserves_one nodes slot =
    elim (is_reserved (all_slots nodes) slot) as (λ b. is_reserved (all_slots nodes) slot ≡ b
    → ReservesOne nodes (cond b nodes (with_slot nodes slot)) slot) [
      | true ↦ λ there.
          record { limits = refl; granules = refl; class_slots_are = refl; own = there; still = λ space other e. e }
      | false ↦ λ gone. record {
        limits = refl;
        granules = refl;
        class_slots_are = refl;
        own = reserved_either (with_slot nodes slot) slot
            ∙ or_left (is_reserved (insert_key nat_cmp nodes.slots slot) slot) (is_in_range 64 nodes.class_slots slot)
            (is_among-insert_key nodes.slots slot slot
            ∙ or_right (is_reserved nodes.slots slot) (slot == slot) (eq-eqb slot slot refl));
        still = still_there;
      }
    ] refl
  where
    still_there : (space : Space) (other : ℕ) → is_reserved (slots_of space nodes) other ≡ true
        → is_reserved (slots_of space (with_slot nodes slot)) other ≡ true
    still_there NonClass other e =
        is_among-insert_key nodes.slots slot other ∙ or_left (is_reserved nodes.slots other) (slot == other) e
    still_there Class other e = e

-- It is reserved in the space that it lies in.
pub own_in_space : (space : Space) (nodes : NodesState) (start : ℕ) → AreSound nodes
    → is_reserved (all_slots nodes) (slot_of start) ≡ true
    → is_in space start ≡ true → is_reserved (slots_of space nodes) (slot_of start) ≡ true
own_in_space NonClass nodes start sound there here =
    sym (reserved_low nodes (slot_of start) (omega (arith, ltb-true start first_class_word here))) ∙ there
own_in_space Class nodes start sound there here =
    is_among-range 64 nodes.class_slots (slot_of start)
    ∙ ap (λ b. b || is_in_range 64 nodes.class_slots (slot_of start)) (sym none_below)
    ∙ sym (reserved_either nodes (slot_of start)) ∙ there
  where
    none_below : is_reserved nodes.slots (slot_of start) ≡ false
    none_below = false_from_ne_true (is_reserved nodes.slots (slot_of start))
        (λ member. omega (
          arith,
          member_below 64 nodes.slots (slot_of start) sound.slots.below member,
          leb-true
              first_class_word start here,
        ))

-- An open slot is one of its space.
abbrev pub IsSlotThere : Space → ℕ → Type 0
IsSlotThere NonClass slot = slot < 64
IsSlotThere Class slot = 64 ≤ slot

pub from_range : (first count k : ℕ) → is_in_range first count k ≡ true → first ≤ k
from_range first count k e = grind (arith, nat_tests, e)

pub open_is_of_space : (space : Space) (nodes : NodesState) (slot : ℕ) → AreSound nodes → nodes.limits.nodes ≤ 64
    → IsOpen space nodes slot → IsSlotThere space slot
open_is_of_space NonClass nodes slot sound few (inl there) = member_below 64 nodes.slots slot sound.slots.below there
open_is_of_space Class nodes slot sound few (inl there) =
    from_range 64 nodes.class_slots slot (sym (is_among-range 64 nodes.class_slots slot) ∙ there)
open_is_of_space NonClass nodes slot sound few (inr fresh) =
    omega (arith, fresh.1, fresh.2, few, lowest_within nodes.slots)
open_is_of_space Class nodes slot sound few (inr fresh) = absurd (no fresh.0)
  where
    no : Class ≡ NonClass → ⊥
    no e = cc
