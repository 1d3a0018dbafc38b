-- The free parts of a space, slot by slot of those that it may have, and root by root.
use Rattle.std.proofs.Common.{◌≡◌, ◌<◌, ◌≤◌, ℕ, ◌+◌, ◌-◌, ◌*◌, Bool, true, false, cond, ◌&&◌, ◌||◌, List, [], length}
use Rattle.std.proofs.Common.{get_or, refl, sym, ap, ◌∙◌, arith, inl, inr, lt-ltb, le-leb}
use Rattle.std.specs.Option.{option_or}
use Rattle.std.specs.Prelude.{Option}
use Rattle.std.specs.List.{filter, find, flat_map, range_with_len}
use Rattle.std.proofs.lemmas.Bool.{cases_lt, false_from_ne_true}
use Rattle.std.proofs.lemmas.Bool.Decides.{nat_tests}
use Rattle.std.proofs.lemmas.List.Folds.{find-append}
use Rattle.std.proofs.lemmas.List.Elements.{recursion_from_All}
use Rattle.std.proofs.lemmas.List.Kept.{IsStrictlyIncreasing-filter}
use Rattle.std.proofs.lemmas.Map.Keys.{sorted_from_strictly_increasing}
use Rattle.ms_base.specs.declared.kind.Space.{Space}
use Rattle.ms_base.specs.declared.kind.Space.TheVariants.{NonClass, Class}
use Rattle.ms_base.specs.declared.span.Chunk.{Chunk}
use Rattle.ms_base.specs.declared.span.Span.{Span}
use Rattle.ms_base.specs.Level.{size_of, root_words, highest_level}
use Rattle.ms_base.specs.Part.{node_words, is_reserved}
use Rattle.ms_base.specs.Policy.{granule_of}
use Rattle.ms_base.specs.Spaces.{by_space, first_class_word}
use Rattle.ms_base.specs.FreeParts.{free_in_slot, free_parts, free_within}
use Rattle.ms_commit.specs.NumberSet.{is_in_range}
use Rattle.ms_commit.specs.Nodes.{NodesState, AreSound, all_slots, granules_in, slots_of}
use Rattle.ms_commit.proofs.ModelLemmas.{slots_rise}
use Rattle.ms_commit.proofs.NodesLemmas.{member_below, reserved_either}
use Rattle.ms_commit.proofs.RangeLemmas.{is_among-filter, is_among-range}
use Rattle.ms_commit.proofs.SameLemmas.{same_sets}
use Rattle.ms_commit.proofs.SetLemmas.{IsStrictlyIncreasing-range}
use Rattle.ms_buddy.specs.Leaves.{AreLeaves}
use Rattle.ms_pool.specs.declared.lender.Lender.{Lender}
use Rattle.ms_pool.specs.Ledger.{committed_of, held_in, state_in}
use Rattle.ms_pool.specs.Keeping.{IsKept, IsRunOf, ledger_of}
use Rattle.ms_pool.specs.Searching.{first_in, grants}
use Rattle.ms_pool.proofs.searches.SearchLemmas.{flat_map-filter}
use Rattle.ms_pool.proofs.searches.EnoughLemmas.{first_in-is}
use Rattle.ms_pool.proofs.searches.FreeRootLemmas.{IsRootIn, free_in_root}

-- The slots that a space may have: the first, and one past the last.
abbrev pub first_slot : Space → ℕ
first_slot space = by_space space 0 64

abbrev pub end_slot : Space → NodesState → ℕ
end_slot space nodes = by_space space 64 (64 + nodes.class_slots)

-- Its reserved slots are those of them that are reserved.
in_low : (a b c d : Bool) → b ≡ false → c ≡ true → a ≡ ((a || b) && c)
in_low true false true d e f = refl
in_low false false true d e f = refl
in_low a true c d e f = absurd (cc)
in_low a false false d e f = absurd (cc)

none_high : (a b : Bool) → a ≡ false → b ≡ false → (c : Bool) → a ≡ ((a || c) && b)
none_high false false e f true = refl
none_high false false e f false = refl
none_high true b e f c = absurd (cc)
none_high false true e f c = absurd (cc)

absorbed : (a b : Bool) → b ≡ ((a || b) && b)
absorbed true true = refl
absorbed true false = refl
absorbed false true = refl
absorbed false false = refl

members_agree : (space : Space) (nodes : NodesState) (k : ℕ) → AreSound nodes
    → is_reserved (slots_of space nodes) k
    ≡ (is_reserved (all_slots nodes) k && is_in_range (first_slot space) (end_slot space nodes - first_slot space) k)
members_agree NonClass nodes k sound = elim (cases_lt k 64) [
  | inl low ↦ in_low (is_reserved nodes.slots k) (is_in_range 64 nodes.class_slots k) (is_in_range 0 64 k) true
      (grind (arith, nat_tests)) (grind (arith, nat_tests))
      ∙ ap (λ b. b && is_in_range 0 64 k) (sym (reserved_either nodes k))
  | inr high ↦ none_high (is_reserved nodes.slots k) (is_in_range 0 64 k)
      (false_from_ne_true (is_reserved nodes.slots k)
      (λ member. omega (arith, member_below 64 nodes.slots k sound.slots.below member)))
      (grind (arith, nat_tests)) (is_in_range 64 nodes.class_slots k)
      ∙ ap (λ b. b && is_in_range 0 64 k) (sym (reserved_either nodes k))
]
members_agree Class nodes k sound =
    is_among-range 64 nodes.class_slots k
    ∙ absorbed (is_reserved nodes.slots k) (is_in_range 64 nodes.class_slots k)
    ∙ ap (λ b. b && is_in_range 64 nodes.class_slots k) (sym (reserved_either nodes k))
    ∙ ap (λ (n : ℕ). is_reserved (all_slots nodes) k && is_in_range 64 n k) same_count
  where
    same_count : nodes.class_slots ≡ 64 + nodes.class_slots - 64
    same_count = omega arith

pub slots_are : (space : Space) (nodes : NodesState) → AreSound nodes
    → slots_of space nodes
    ≡ filter (is_reserved (all_slots nodes))
    (range_with_len (first_slot space) (end_slot space nodes - first_slot space))
slots_are space nodes sound =
    same_sets (slots_of space nodes) (filter (is_reserved (all_slots nodes)) range)
    (sorted_from_strictly_increasing (slots_of space nodes) (slots_rise space nodes sound))
    (sorted_from_strictly_increasing (filter (is_reserved (all_slots nodes)) range)
    (IsStrictlyIncreasing-filter (is_reserved (all_slots nodes)) range
    (IsStrictlyIncreasing-range (first_slot space) (end_slot space nodes - first_slot space))))
    (λ k. members_agree space nodes k sound
    ∙ ap (λ b. is_reserved (all_slots nodes) k && b)
    (sym (is_among-range (first_slot space) (end_slot space nodes - first_slot space) k))
    ∙ sym (is_among-filter (is_reserved (all_slots nodes)) range k))
  where
    range : List ℕ
    range = range_with_len (first_slot space) (end_slot space nodes - first_slot space)

-- What a slot gives: its free parts where it is reserved.
abbrev pub given_by : NodesState → List Chunk → ℕ → List Span
given_by nodes held slot = cond (is_reserved (all_slots nodes) slot) (free_in_slot held slot) []

pub parts_by_slots : (space : Space) (nodes : NodesState) (held : List Chunk) → AreSound nodes
    → free_parts held (slots_of space nodes)
    ≡ flat_map (given_by nodes held) (range_with_len (first_slot space) (end_slot space nodes - first_slot space))
parts_by_slots space nodes held sound =
    ap (free_parts held) (slots_are space nodes sound)
    ∙ flat_map-filter (is_reserved (all_slots nodes)) (free_in_slot held)
    (range_with_len (first_slot space) (end_slot space nodes - first_slot space))

-- The words of a slot of a space lie in it.
pub root_in : (space : Space) (nodes : NodesState) (slot half : ℕ) → half ≤ 1 → first_slot space ≤ slot
    → slot < end_slot space nodes → IsRootIn space (2 * slot + half)
root_in NonClass nodes slot half h low high offset within =
    lt-ltb (offset + (2 * slot + half) * root_words) first_class_word (omega arith)
root_in Class nodes slot half h low high offset within =
    le-leb first_class_word (offset + (2 * slot + half) * root_words) (omega arith)

words_in_space : (space : Space) (nodes : NodesState) (slot half words : ℕ) → half ≤ 1 → first_slot space ≤ slot
    → slot < end_slot space nodes
    → (offset : ℕ) → offset + words ≤ root_words → IsRunOf space (offset + (2 * slot + half) * root_words) words
words_in_space NonClass nodes slot half words h low high offset within = omega arith
words_in_space Class nodes slot half words h low high offset within = omega arith

pub root_there : (space : Space) (nodes : NodesState) (slot half count : ℕ) → half ≤ 1 → first_slot space ≤ slot
    → slot < end_slot space nodes
    → count ≡ 2 * (64 + nodes.class_slots) → 2 * slot + half < count
root_there NonClass nodes slot half count h low high e = omega arith
root_there Class nodes slot half count h low high e = omega arith

pub committed_is : (space : Space) (lender : Lender)
    → committed_of space (ledger_of lender) ≡ granules_in space lender.nodes
committed_is NonClass lender = refl
committed_is Class lender = refl

-- The first part of a root that grants, from its tree.
root_found : (space : Space) (lender : Lender) (words : ℕ) (committed : Bool) (level slot half : ℕ) → IsKept lender
    → 1 ≤ words → words ≤ size_of level
    → half ≤ 1 → first_slot space ≤ slot → slot < end_slot space lender.nodes
    → find (grants (state_in space (ledger_of lender)) words committed level)
    (free_within (held_in space (ledger_of lender)) highest_level ((2 * slot + half) * root_words))
    ≡ first_in lender.nodes.granules (granule_of lender.policy) words committed level (2 * slot + half)
    (get_or lender.trees.items (2 * slot + half) [])
root_found space lender words committed level slot half kept some fits h low high =
    ap (find (grants (state_in space (ledger_of lender)) words committed level))
    (free_in_root space lender.trees.items (2 * slot + half)
    (root_there space lender.nodes slot half (length lender.trees.items) h low high kept.trees)
    (recursion_from_All AreLeaves lender.trees.items kept.leaves) (root_in space lender.nodes slot half h low high))
    ∙ sym (first_in-is space lender.policy lender.nodes (state_in space (ledger_of lender)) words committed level
    (2 * slot + half)
    (get_or lender.trees.items (2 * slot + half) []) refl (committed_is space lender) kept.granule some fits
    (words_in_space space lender.nodes slot half words h low high))

-- So that of a slot, from the trees of its two roots.
pub slot_found : (space : Space) (lender : Lender) (words : ℕ) (committed : Bool) (level slot : ℕ) → IsKept lender
    → 1 ≤ words → words ≤ size_of level
    → first_slot space ≤ slot → slot < end_slot space lender.nodes
    → find (grants (state_in space (ledger_of lender)) words committed level)
    (free_in_slot (held_in space (ledger_of lender)) slot)
    ≡ option_or
    (first_in lender.nodes.granules (granule_of lender.policy) words committed level (2 * slot)
    (get_or lender.trees.items (2 * slot) []))
    (first_in lender.nodes.granules (granule_of lender.policy) words committed level (2 * slot + 1)
    (get_or lender.trees.items (2 * slot + 1) []))
slot_found space lender words committed level slot kept some fits low high =
    find-append test (free_within held highest_level (slot * node_words))
    (free_within held highest_level (slot * node_words + size_of 0))
    ∙ ap (λ (o : Option Span). option_or o (find test (free_within held highest_level (slot * node_words + size_of 0))))
    (ap (λ (at_ : ℕ). find test (free_within held highest_level at_)) lower
    ∙ root_found space lender words committed level slot 0 kept some fits (omega arith) low high
    ∙ ap (λ (root : ℕ). in_root root) plain)
    ∙ ap (option_or (in_root (2 * slot)))
    (ap (λ (at_ : ℕ). find test (free_within held highest_level at_)) upper
    ∙ root_found space lender words committed level slot 1 kept some fits (omega arith) low high)
  where
    test : Span → Bool
    test = grants (state_in space (ledger_of lender)) words committed level

    held : List Chunk
    held = held_in space (ledger_of lender)

    in_root : ℕ → Option Span
    in_root root =
        first_in lender.nodes.granules (granule_of lender.policy) words committed level root
        (get_or lender.trees.items root [])

    plain : 2 * slot + 0 ≡ 2 * slot
    plain = omega arith

    lower : slot * node_words ≡ (2 * slot + 0) * root_words
    lower = omega arith

    upper : slot * node_words + size_of 0 ≡ (2 * slot + 1) * root_words
    upper = omega arith
