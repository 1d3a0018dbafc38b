-- The free parts of the reserved slots against clear parts: the laws on free parts and on room use
-- these.
use Rattle.std.proofs.Common.{◌≡◌, ◌≤◌, ◌<◌, ℕ, ◌+◌, ◌*◌, ◌/◌, ◌%◌, Bool, true, false, ◌||◌, List, [], ◌∷◌, refl, ap}
use Rattle.std.proofs.Common.{◌∙◌, inl, inr, arith, get_or}
use Rattle.std.specs.Prelude.{◌==◌, nat_le, IsFalse}
use Rattle.std.specs.List.{All, Any, Contains, list_any, flat_map}
use Rattle.std.proofs.lemmas.Bool.{cases_lt, or_left, or_right, or_from, or_parts, and_parts, both_ways}
use Rattle.std.proofs.lemmas.Bool.{false_from_ne_true, eqb-true, eq-eqb, leb-true, le-leb}
use Rattle.std.proofs.lemmas.Bool.Decides.{nat_tests}
use Rattle.std.proofs.lemmas.List.Elements.{All-nil, All-append, All-weaker, All-head, All-tail, All-contains}
use Rattle.std.proofs.lemmas.List.Folds.{list_any-append, list_any_at, Any-from_list_any}
use Rattle.ms_base.specs.declared.span.Chunk.{Chunk}
use Rattle.ms_base.specs.declared.span.Span.{Span}
use Rattle.ms_base.specs.Interval.{meet, lies_in}
use Rattle.ms_base.specs.Level.{size_of, highest_level}
use Rattle.ms_base.specs.Part.{IsPart, slot_of, is_reserved, node_words}
use Rattle.ms_base.specs.Held.{meets_chunk}
use Rattle.ms_base.specs.FreeParts.{IsFreePart, free_within, free_in_slot, free_parts}
use Rattle.ms_base.specs.State.{PoolState}
use Rattle.ms_base.specs.PoolSteps.Causes.{has_room}
use Rattle.ms_base.specs.Laws.Free.{part_at, IsClearIn, IsClear, LiesIn, LiesInFree, HasRoomWhereClear}
use Rattle.ms_base.proofs.free.HalvesLemmas.{size_falls, size_some, multiple_of_smaller, steps_apart}
use Rattle.ms_base.proofs.free.FreeLemmas.{has_part, IsInside, clear_is_in_free, IsFreeWithin, widened, listed_are_free}

-- A slot's roots are multiples of their size, and fill its node.
abbrev pub root_of : ℕ → ℕ
root_of slot = slot * node_words

pub roots_are_whole : (slot : ℕ) → (root_of slot % size_of 0 ≡ 0) × ((root_of slot + size_of 0) % size_of 0 ≡ 0)
roots_are_whole slot = (omega arith, omega arith)

in_lower_root : (part : Span) (slot : ℕ) → IsPart part.start part.level → root_of slot ≤ part.start
    → part.start < root_of slot + size_of 0 → IsInside part highest_level (root_of slot)
in_lower_root part slot placed low high = record {
  wide = omega arith;
  from = low;
  upto = steps_apart part.start (root_of slot + size_of 0) (size_of part.level) placed.1
      (multiple_of_smaller (root_of slot + size_of 0) 0 part.level (omega arith) placed.0 (roots_are_whole slot).1)
      high;
}

next_root_is_whole : (slot : ℕ) → (root_of slot + node_words) % size_of 0 ≡ 0
next_root_is_whole slot = omega arith

in_upper_root : (part : Span) (slot : ℕ) → IsPart part.start part.level → root_of slot + size_of 0 ≤ part.start
    → part.start < root_of slot + node_words → IsInside part highest_level (root_of slot + size_of 0)
in_upper_root part slot placed low high = record {
  wide = omega arith;
  from = low;
  upto = omega (
    arith,
    steps_apart part.start (root_of slot + node_words) (size_of part.level) placed.1
        (multiple_of_smaller (root_of slot + node_words) 0 part.level (omega arith) placed.0 (next_root_is_whole slot))
        high,
  );
}

-- Among the free parts of its slot is one that has a clear part within it.
clear_is_in_slot : (held : List Chunk) (part : Span) → IsPart part.start part.level
    → IsFalse (meets_chunk held part.start part.level)
    → list_any (has_part part) (free_in_slot held (slot_of part.start)) ≡ true
clear_is_in_slot held part placed empty =
    list_any-append (has_part part) (free_within held highest_level (root_of slot))
    (free_within held highest_level (root_of slot + size_of 0))
    ∙ elim (cases_lt part.start (root_of slot + size_of 0)) [
      | inl low ↦ or_left (list_any (has_part part) (free_within held highest_level (root_of slot)))
          (list_any (has_part part) (free_within held highest_level (root_of slot + size_of 0)))
          (clear_is_in_free held part placed empty highest_level (root_of slot) (omega arith) (roots_are_whole slot).0
          (in_lower_root part slot placed (omega arith) low))
      | inr high ↦ or_right (list_any (has_part part) (free_within held highest_level (root_of slot)))
          (list_any (has_part part) (free_within held highest_level (root_of slot + size_of 0)))
          (clear_is_in_free held part placed empty highest_level (root_of slot + size_of 0)
          (omega arith) (roots_are_whole slot).1
          (in_upper_root part slot placed high (omega arith)))
    ]
  where
    slot : ℕ
    slot = slot_of part.start

-- What a reserved slot's list has, the lists of all slots together have.
any_in_slots : {X : Type 0} (p : X → Bool) (f : ℕ → List X) (slots : List ℕ) (slot : ℕ)
    → is_reserved slots slot ≡ true → list_any p (f slot) ≡ true → list_any p (flat_map f slots) ≡ true
any_in_slots p f [] slot reserved there = absurd (cc)
any_in_slots p f (s ∷ slots) slot reserved there =
    list_any-append p (f s) (flat_map f slots)
    ∙ elim (s == slot) as (λ b. (s == slot) ≡ b → (b || is_reserved slots slot) ≡ true
    → (list_any p (f s) || list_any p (flat_map f slots)) ≡ true) [
      | true ↦ λ e later. or_left (list_any p (f s)) (list_any p (flat_map f slots))
          (ap (λ (x : ℕ). list_any p (f x)) (eqb-true s slot e) ∙ there)
      | false ↦ λ e later. or_right (list_any p (f s)) (list_any p (flat_map f slots))
          (any_in_slots p f slots slot later there)
    ] refl reserved

-- A part that passes the test has the part within it.
lies_in_from : (part around : Span) → has_part part around ≡ true → LiesIn part around
lies_in_from part around passes = let both =
    and_parts (nat_le around.level part.level)
    (lies_in (part.start, size_of part.level) (around.start, size_of around.level)) passes in
    record { wide = leb-true around.level part.level both.0; inside = both.1 }

-- Each clear part lies in a free part.
pub clear_lies_in_free : (held : List Chunk) (slots : List ℕ) (part : Span) → IsClear held slots part
    → LiesInFree held slots part
clear_lies_in_free held slots part clear =
    record { around = found.1; free = (found.0, found.2, found.3); within = lies_in_from part found.1 found.4 }
  where
    found : Any (λ around. has_part part around ≡ true) (free_parts held slots)
    found = Any-from_list_any (has_part part) (free_parts held slots)
        (any_in_slots (has_part part) (free_in_slot held) slots (slot_of part.start) clear.reserved
        (clear_is_in_slot held part clear.placed clear.empty))

-- The free parts of a slot are free, and lie in its node.
free_in_node : (held : List Chunk) (slot : ℕ)
    → All (IsFreeWithin held (root_of slot) (root_of slot + node_words)) (free_in_slot held slot)
free_in_node held slot = All-append (IsFreeWithin held (root_of slot) (root_of slot + node_words)) lower upper
    (widened held (root_of slot) (root_of slot + size_of 0) (root_of slot) (root_of slot + node_words) lower
    (omega arith) (omega arith)
    (listed_are_free held highest_level (root_of slot) (omega arith) (roots_are_whole slot).0 refl))
    (widened held (root_of slot + size_of 0) (root_of slot + size_of 0 + size_of 0) (root_of slot)
    (root_of slot + node_words) upper (omega arith) (omega arith)
    (listed_are_free held highest_level (root_of slot + size_of 0) (omega arith) (roots_are_whole slot).1 refl))
  where
    lower : List Span
    lower = free_within held highest_level (root_of slot)

    upper : List Span
    upper = free_within held highest_level (root_of slot + size_of 0)

-- What lies in a reserved slot's node and is free there is a free part.
free_from_node : (held : List Chunk) (slots : List ℕ) (slot : ℕ) → is_reserved slots slot ≡ true → (part : Span)
    → IsFreeWithin held (root_of slot) (root_of slot + node_words) part → IsFreePart held slots part
free_from_node held slots slot reserved part free =
    record {
      placed = free.placed;
      reserved = ap (is_reserved slots) (in_slot free.from (omega (arith, free.upto, size_some part.level)))
          ∙ reserved;
      empty = free.empty;
      largest = free.largest;
    }
  where
    in_slot : slot * node_words ≤ part.start → part.start < slot * node_words + node_words
        → part.start / node_words ≡ slot
    in_slot h k = omega arith

-- Each slot of a list is found in it.
slots_are_reserved : (slots : List ℕ) → All (λ slot. is_reserved slots slot ≡ true) slots
slots_are_reserved slots =
    λ k d h. list_any_at (λ other. other == get_or slots k d) slots k d h
    (eq-eqb (get_or slots k d) (get_or slots k d) refl)

-- What holds of all that each slot gives holds of all that they give together.
all_given : {X : Type 0} (Q : ℕ → Type 0) (P : X → Type 0) (f : ℕ → List X)
    (each : (slot : ℕ) → Q slot → All P (f slot)) (slots : List ℕ)
    → All Q slots → All P (flat_map f slots)
all_given Q P f each [] all = All-nil P
all_given Q P f each (slot ∷ slots) all =
    All-append P (f slot) (flat_map f slots) (each slot (All-head Q slot slots all))
    (all_given Q P f each slots (All-tail Q slot slots all))

-- All that is listed is free.
pub listed_is_free : (held : List Chunk) (slots : List ℕ) → All (IsFreePart held slots) (free_parts held slots)
listed_is_free held slots =
    all_given (λ slot. is_reserved slots slot ≡ true) (IsFreePart held slots) (free_in_slot held)
    (λ slot reserved. All-weaker (IsFreeWithin held (root_of slot) (root_of slot + node_words)) (IsFreePart held slots)
    (free_from_node held slots slot reserved) (free_in_slot held slot) (free_in_node held slot)) slots
    (slots_are_reserved slots)

-- A run within one that meets no chunk meets none.
pub clear_within : (held : List Chunk) (a l b k : ℕ) → a ≤ b → b + size_of k ≤ a + size_of l
    → IsFalse (meets_chunk held a l) → IsFalse (meets_chunk held b k)
clear_within [] a l b k from upto clear = refl
clear_within (chunk ∷ held) a l b k from upto clear =
    let both = or_parts (meet chunk.start (size_of chunk.level) a (size_of l)) (meets_chunk held a l) clear in
    or_from (meet chunk.start (size_of chunk.level) b (size_of k)) (meets_chunk held b k)
    (apart chunk.start (size_of chunk.level) a (size_of l) b (size_of k) from upto both.0)
    (clear_within held a l b k from upto both.1)
  where
    apart : (c t a s b u : ℕ) → a ≤ b → b + u ≤ a + s → meet c t a s ≡ false → meet c t b u ≡ false
    apart c t a s b u h m e = grind (arith, nat_tests)

-- The lowest part of a level in a free part is clear.
pub lowest_is_clear : (held : List Chunk) (slots : List ℕ) (part : Span) (m : ℕ)
    → Contains (free_parts held slots) part → part.level ≤ m → m ≤ highest_level
    → IsClear held slots (part_at part.start m)
lowest_is_clear held slots part m listed h k = let free =
    All-contains (IsFreePart held slots) (free_parts held slots) part (listed_is_free held slots) listed in record {
      placed = (k, multiple_of_smaller part.start part.level m h k free.placed.1);
      reserved = free.reserved;
      empty = clear_within held part.start part.level part.start m (omega arith)
          (omega (arith, size_falls part.level m h)) free.empty;
    }

-- There is room for a level exactly where a part of it is clear.
pub room_is_clear : (pool : PoolState) (m : ℕ) → m ≤ highest_level → HasRoomWhereClear pool m
room_is_clear pool m h = record {
  room = λ start clear. let found = clear_lies_in_free pool.held pool.slots (part_at start m) clear in
      list_any_at (λ part. nat_le part.level m) (free_parts pool.held pool.slots) found.free.0 found.around found.free.1
      (ap (λ (part : Span). nat_le part.level m) found.free.2 ∙ le-leb found.around.level m found.within.wide);
  clear = some_clear;
  full = λ all. false_from_ne_true (has_room pool m)
      (λ e. let some = some_clear e in
      both_ways (meets_chunk pool.held some.0 m) some.1.empty (all some.0 some.1.placed some.1.reserved));
}
  where
    some_clear : has_room pool m ≡ true → (start : ℕ) × IsClearIn pool start m
    some_clear e = let found =
        Any-from_list_any (λ (part : Span). nat_le part.level m) (free_parts pool.held pool.slots) e in (
          found.1.start,
          lowest_is_clear pool.held pool.slots found.1 m (found.0, found.2, found.3)
              (leb-true found.1.level m found.4) h,
        )
