-- Slots of whose roots none has a free leaf of the level are passed over: the loop over slots goes
-- on from the one that the index tells.
use Rattle.std.proofs.Common.{◌≡◌, ◌<◌, ◌≤◌, ℕ, zero, suc, ◌+◌, ◌-◌, ◌*◌, Bool, true, false, cond, not, ◌&&◌, ◌||◌}
use Rattle.std.proofs.Common.{◌==◌, List, [], ◌∷◌, get_or, map, refl, ap, ◌∙◌, arith, Option, Some, None, sym}
use Rattle.std.specs.List.{find, flat_map, list_any, range_with_len}
use Rattle.std.specs.Option.{option_or}
use Rattle.ms_base.specs.declared.kind.Space.{Space}
use Rattle.ms_base.specs.declared.kind.Space.TheVariants.{NonClass, Class}
use Rattle.ms_base.specs.Spaces.{by_space}
use Rattle.ms_base.specs.declared.span.Span.{Span}
use Rattle.ms_base.specs.Level.{size_of}
use Rattle.ms_base.specs.FreeParts.{free_in_slot, free_parts}
use Rattle.ms_base.specs.Part.{is_reserved}
use Rattle.ms_base.specs.Policy.{granule_of}
use Rattle.ms_commit.specs.Nodes.{all_slots, slots_of}
use Rattle.ms_buddy.specs.Leaves.{LentLeaf, free_of, has_level, is_of}
use Rattle.ms_pool.specs.declared.lender.Lender.{Lender}
use Rattle.ms_pool.specs.Ledger.{held_in, state_in}
use Rattle.ms_pool.specs.Keeping.{IsKept, ledger_of}
use Rattle.ms_pool.specs.Searching.{are_among, first_in, grants, part_in}
use Rattle.ms_pool.specs.Trees.{IsRootOf, LeaveNone, has_free}
use Rattle.ms_pool.proofs.searches.SearchLemmas.{find_step, found_later, find_end}
use Rattle.ms_pool.proofs.searches.SlotLoopLemmas.{end_slot, first_slot, given_by, slot_found, parts_by_slots}

-- A root without a free leaf of the level has none to find.
none_of_level : (passes : Span → Bool) (level root : ℕ) (parts : List Span) → list_any (is_of level) parts ≡ false
    → find (λ part. (part.level == level) && passes part) (map (part_in root) parts) ≡ None
none_of_level passes level root [] none = refl
none_of_level passes level root (part ∷ parts) none =
    elim (part.level == level) as (λ b. (b || list_any (is_of level) parts) ≡ false
    → cond (b && passes (part_in root part)) (Some (part_in root part))
    (find (λ other. (other.level == level) && passes other) (map (part_in root) parts)) ≡ None) [
      | true ↦ λ e. absurd (cc)
      | false ↦ λ e. none_of_level passes level root parts e
    ] none

first_in-none : (numbers : List ℕ) (granule words : ℕ) (committed : Bool) (level root : ℕ) (tree : List LentLeaf)
    → list_any (is_of level) (free_of tree) ≡ false
    → first_in numbers granule words committed level root tree ≡ None
unfolding first_in
first_in-none numbers granule words committed level root tree none =
    none_of_level (λ part. not committed || are_among numbers granule part.start words) level root (free_of tree) none

-- So has a slot, neither of whose roots has one.
pub slot_has_none : (space : Space) (lender : Lender) (words : ℕ) (committed : Bool) (level slot : ℕ) → IsKept lender
    → 1 ≤ words → words ≤ size_of level
    → first_slot space ≤ slot → slot < end_slot space lender.nodes
    → has_free lender.trees.items level (2 * slot) ≡ false → has_free lender.trees.items level (2 * slot + 1) ≡ false
    → find (grants (state_in space (ledger_of lender)) words committed level)
    (given_by lender.nodes (held_in space (ledger_of lender)) slot) ≡ None
slot_has_none space lender words committed level slot kept some fits low high lower upper =
    elim (is_reserved (all_slots lender.nodes) slot) as (λ b. find test
    (cond b (free_in_slot (held_in space (ledger_of lender)) slot) []) ≡ None) [
      | true ↦ slot_found space lender words committed level slot kept some fits low high
          ∙ found_later (in_root (2 * slot)) (in_root (2 * slot + 1))
          (first_in-none lender.nodes.granules (granule_of lender.policy) words committed level (2 * slot)
          (get_or lender.trees.items (2 * slot) []) lower)
          ∙ first_in-none lender.nodes.granules (granule_of lender.policy) words committed level (2 * slot + 1)
          (get_or lender.trees.items (2 * slot + 1) []) upper
      | false ↦ refl
    ]
  where
    test : Span → Bool
    test = grants (state_in space (ledger_of lender)) words committed level

    in_root : ℕ → Option Span
    in_root root =
        first_in lender.nodes.granules (granule_of lender.policy) words committed level root
        (get_or lender.trees.items root [])

-- Numbers that give nothing are passed over.
skip_count : {X : Type 0} (p : X → Bool) (f : ℕ → List X) (n a end : ℕ) → a + n ≤ end
    → ((k : ℕ) → a ≤ k → k < a + n → find p (f k) ≡ None)
    → find p (flat_map f (range_with_len a (end - a))) ≡ find p (flat_map f (range_with_len (a + n) (end - (a + n))))
skip_count p f zero a end h none = ap (λ (m : ℕ). find p (flat_map f (range_with_len m (end - m)))) same
  where
    same : a ≡ a + 0
    same = omega arith
skip_count p f (suc n) a end h none =
    find_step p f a end (omega arith)
    ∙ found_later (find p (f a)) (find p (flat_map f (range_with_len (a + 1) (end - (a + 1)))))
    (none a (omega arith) (omega arith))
    ∙ skip_count p f n (a + 1) end (omega arith) (λ k low high. none k (omega arith) (omega arith))
    ∙ ap (λ (m : ℕ). find p (flat_map f (range_with_len m (end - m)))) same
  where
    same : a + 1 + n ≡ a + suc n
    same = omega arith

pub skipped : {X : Type 0} (p : X → Bool) (f : ℕ → List X) (a b end : ℕ) → a ≤ b → b ≤ end
    → ((k : ℕ) → a ≤ k → k < b → find p (f k) ≡ None)
    → find p (flat_map f (range_with_len a (end - a))) ≡ find p (flat_map f (range_with_len b (end - b)))
skipped p f a b end h k none =
    skip_count p f (b - a) a end (omega arith) (λ i low high. none i low (omega arith))
    ∙ ap (λ (m : ℕ). find p (flat_map f (range_with_len m (end - m)))) same
  where
    same : a + (b - a) ≡ b
    same = omega arith

pub to_slot : (space : Space) (lender : Lender) (words : ℕ) (committed : Bool) (level a b : ℕ) → IsKept lender
    → 1 ≤ words → words ≤ size_of level
    → first_slot space ≤ a → a ≤ b → b ≤ end_slot space lender.nodes
    → ((root : ℕ) → 2 * a ≤ root → root < 2 * b → has_free lender.trees.items level root ≡ false)
    → find (grants (state_in space (ledger_of lender)) words committed level)
    (flat_map (given_by lender.nodes (held_in space (ledger_of lender)))
    (range_with_len a (end_slot space lender.nodes - a)))
    ≡ find (grants (state_in space (ledger_of lender)) words committed level)
    (flat_map (given_by lender.nodes (held_in space (ledger_of lender)))
    (range_with_len b (end_slot space lender.nodes - b)))
to_slot space lender words committed level a b kept some fits low h k none =
    skipped (grants (state_in space (ledger_of lender)) words committed level)
    (given_by lender.nodes (held_in space (ledger_of lender))) a b (end_slot space lender.nodes) h k
    (λ slot from below. slot_has_none space lender words committed level slot kept some fits (omega arith) (omega arith)
    (none (2 * slot) (omega arith) (omega arith)) (none (2 * slot + 1) (omega arith) (omega arith)))

pub first_before : (space : Space) (class_slots : ℕ) → by_space space 0 64 ≤ by_space space 64 (64 + class_slots)
first_before NonClass class_slots = omega arith
first_before Class class_slots = omega arith

-- What the slots of a space give to a search: all of them, and those from one on.
abbrev pub found_of : Space → Lender → ℕ → Bool → ℕ → Option Span
found_of space lender words committed level =
    find (grants (state_in space (ledger_of lender)) words committed level)
    (free_parts (held_in space (ledger_of lender)) (slots_of space lender.nodes))

abbrev pub found_by : Space → Lender → ℕ → Bool → ℕ → ℕ → Option Span
found_by space lender words committed level slot =
    find (grants (state_in space (ledger_of lender)) words committed level)
    (given_by lender.nodes (held_in space (ledger_of lender)) slot)

abbrev pub found_from : Space → Lender → ℕ → Bool → ℕ → ℕ → Option Span
found_from space lender words committed level slot =
    find (grants (state_in space (ledger_of lender)) words committed level)
    (flat_map (given_by lender.nodes (held_in space (ledger_of lender)))
    (range_with_len slot (end_slot space lender.nodes - slot)))

-- What is found first lies in the slots that are left.
pub record IsLookedTo (space : Space) (lender : Lender) (words : ℕ) (committed : Bool) (level slot : ℕ) : Type 0 where
  pub low : first_slot space ≤ slot
  pub high : slot ≤ end_slot space lender.nodes
  pub first : found_of space lender words committed level ≡ found_from space lender words committed level slot

pub looked_to_first : (space : Space) (lender : Lender) (words : ℕ) (committed : Bool) (level slot : ℕ) → IsKept lender
    → slot ≡ first_slot space
    → IsLookedTo space lender words committed level slot
looked_to_first space lender words committed level slot kept start = record {
  low = omega (arith, start);
  high = omega (arith, start, first_before space lender.nodes.class_slots);
  first = ap (find (grants (state_in space (ledger_of lender)) words committed level))
      (parts_by_slots space lender.nodes (held_in space (ledger_of lender)) kept.nodes)
      ∙ ap (found_from space lender words committed level) (sym start);
}

-- Where no root below the next slot has a free leaf of the level, that slot decides, or those after
-- it; where there is no next one, nothing is found.
pub decided_at : (space : Space) (lender : Lender) (words : ℕ) (committed : Bool) (level a slot : ℕ) → IsKept lender
    → 1 ≤ words → words ≤ size_of level
    → IsLookedTo space lender words committed level a → a ≤ slot → slot < end_slot space lender.nodes
    → ((root : ℕ) → 2 * a ≤ root → root < 2 * slot → has_free lender.trees.items level root ≡ false)
    → found_of space lender words committed level ≡ option_or (found_by space lender words committed level slot)
    (found_from space lender words committed level (slot + 1))
decided_at space lender words committed level a slot kept some fits looked before within none =
    looked.first
    ∙ to_slot space lender words committed level a slot kept some fits looked.low before (omega (arith, within)) none
    ∙ find_step (grants (state_in space (ledger_of lender)) words committed level)
    (given_by lender.nodes (held_in space (ledger_of lender))) slot (end_slot space lender.nodes) within

pub decided_last : (space : Space) (lender : Lender) (words : ℕ) (committed : Bool) (level a : ℕ) → IsKept lender
    → 1 ≤ words → words ≤ size_of level
    → IsLookedTo space lender words committed level a
    → ((root : ℕ) → 2 * a ≤ root → root < 2 * end_slot space lender.nodes
    → has_free lender.trees.items level root ≡ false)
    → found_of space lender words committed level ≡ None
decided_last space lender words committed level a kept some fits looked none =
    looked.first
    ∙ to_slot space lender words committed level a (end_slot space lender.nodes) kept some fits looked.low looked.high
    (omega arith) none
    ∙ find_end (grants (state_in space (ledger_of lender)) words committed level)
    (given_by lender.nodes (held_in space (ledger_of lender)))
    (end_slot space lender.nodes) (end_slot space lender.nodes) (omega arith)

-- Where a level's bit is clear, the space has no free part of it.
pub none_of_space : (space : Space) (lender : Lender) (levels words : ℕ) (committed : Bool) (level : ℕ) → IsKept lender
    → 1 ≤ words → words ≤ size_of level → LeaveNone levels space lender.trees.items → has_level levels level ≡ false
    → found_of space lender words committed level ≡ None
none_of_space space lender levels words committed level kept some fits told clear =
    decided_last space lender words committed level (first_slot space) kept some fits
    (looked_to_first space lender words committed level (first_slot space) kept refl)
    (λ root low high. told level root (is_of_space space low high) (omega (arith, kept.trees, inside space high)) clear)
  where
    is_of_space : (space : Space) {root : ℕ} → 2 * first_slot space ≤ root → root < 2 * end_slot space lender.nodes
        → IsRootOf space root
    is_of_space NonClass low high = omega arith
    is_of_space Class low high = omega arith

    inside : (space : Space) {root : ℕ} → root < 2 * end_slot space lender.nodes
        → root < 2 * (64 + lender.nodes.class_slots)
    inside NonClass high = omega arith
    inside Class high = omega arith
