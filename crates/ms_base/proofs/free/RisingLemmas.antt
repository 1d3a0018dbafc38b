-- Free parts stand in rising order, each after the end of the one before. The law on the list of
-- free parts uses this.
use Rattle.std.proofs.Common.{◌≡◌, ◌≤◌, ◌<◌, ℕ, suc, ◌+◌, ◌*◌, List, [], ◌∷◌, ◌++◌, map, sym, subst, arith}
use Rattle.std.specs.List.{AllByRecursion, flat_map}
use Rattle.std.specs.List.Sorted.{IsStrictlyIncreasing, IsStrictlySortedBy}
use Rattle.std.specs.Ordering.{nat_cmp}
use Rattle.std.specs.declared.cmp.Ordering.TheVariants.{Less}
use Rattle.std.proofs.lemmas.Bool.Decides.{nat_tests}
use Rattle.std.proofs.lemmas.Map.Keys.{sorted_from_strictly_increasing, IsStrictlyIncreasing-from_sorted}
use Rattle.ms_base.specs.declared.span.Chunk.{Chunk}
use Rattle.ms_base.specs.declared.span.Span.{Span}
use Rattle.ms_base.specs.Level.{size_of, highest_level}
use Rattle.ms_base.specs.Part.{node_words}
use Rattle.ms_base.specs.FreeParts.{free_within, free_in_slot, free_parts}
use Rattle.ms_base.specs.Laws.Free.{start_of}
use Rattle.ms_base.proofs.free.HalvesLemmas.{words_over, IsStart, size_some, size_of_halves}
use Rattle.ms_base.proofs.free.FreeLemmas.{by_halves}
use Rattle.ms_base.proofs.free.RoomLemmas.{root_of, roots_are_whole}

-- Parts rise from low to high: each starts where the one before ends, or later.
abbrev Rises : ℕ → ℕ → List Span → Type 0
Rises low high [] = low ≤ high
Rises low high (part ∷ parts) = (low ≤ part.start) × Rises (part.start + size_of part.level) high parts

rises_lower : (a low high : ℕ) (parts : List Span) → a ≤ low → Rises low high parts → Rises a high parts
rises_lower a low high [] h rises = omega (arith, rises)
rises_lower a low high (part ∷ parts) h rises = (omega (arith, rises.0), rises.1)

rises_joined : (low middle high : ℕ) (xs ys : List Span) → Rises low middle xs → Rises middle high ys
    → Rises low high (xs ++ ys)
rises_joined low middle high [] ys first second = rises_lower low middle high ys first second
rises_joined low middle high (part ∷ xs) ys first second =
    (first.0, rises_joined (part.start + size_of part.level) middle high xs ys first.1 second)

-- The free parts of a part rise from its start to its end.
within_rises : (held : List Chunk) (below start : ℕ) → below ≤ highest_level → IsStart below start
    → Rises start (start + words_over below) (free_within held below start)
within_rises held = by_halves held (λ below start parts. Rises start (start + words_over below) parts) (record {
  none = λ start whole meets. omega arith;
  itself = λ below start h whole clear. (omega arith, omega arith);
  halves = λ below start lower upper h whole meets first second.
      let end : start + words_over (suc below) ≡ start + words_over below + words_over below =
      omega (arith, size_of_halves below h) in
      subst (λ (high : ℕ). Rises start high (lower ++ upper)) (sym end)
      (rises_joined start (start + words_over below) (start + words_over below + words_over below) lower upper first
      second);
})

-- The free parts of a slot rise within its node.
slot_rises : (held : List Chunk) (slot : ℕ)
    → Rises (slot * node_words) ((slot + 1) * node_words) (free_in_slot held slot)
slot_rises held slot = subst (λ (high : ℕ). Rises root high (free_in_slot held slot)) (omega arith)
    (rises_joined root middle (middle + size_of 0) (free_within held highest_level root)
    (free_within held highest_level middle)
    (within_rises held highest_level root (omega arith) (roots_are_whole slot).0)
    (within_rises held highest_level middle (omega arith) (roots_are_whole slot).1))
  where
    root : ℕ
    root = root_of slot

    middle : ℕ
    middle = root_of slot + size_of 0

-- Each slot is at least the low one.
abbrev AreFrom : ℕ → List ℕ → Type 0
AreFrom low slots = AllByRecursion (λ y. low ≤ y) slots

-- Each number is above the low one, as sorted lists have it.
abbrev AreAbove : ℕ → List ℕ → Type 0
AreAbove low numbers = AllByRecursion (λ y. nat_cmp low y ≡ Less) numbers

-- What is above a slot is at least the next one.
next_from_above : (slot : ℕ) (slots : List ℕ) → AreAbove slot slots → AreFrom (slot + 1) slots
next_from_above slot [] above = tt
next_from_above slot (y ∷ slots) above = (above_is slot y above.0, next_from_above slot slots above.1)
  where
    above_is : (a b : ℕ) → nat_cmp a b ≡ Less → a + 1 ≤ b
    above_is a b h = grind (arith, nat_tests)

-- The free parts of rising slots rise, from the first slot's node on.
slots_rise : (held : List Chunk) (low : ℕ) (slots : List ℕ) → AreFrom low slots → IsStrictlySortedBy nat_cmp slots
    → (high : ℕ) × Rises (low * node_words) high (flat_map (free_in_slot held) slots)
unfolding IsStrictlySortedBy
slots_rise held low [] above sorted = (low * node_words, omega arith)
slots_rise held low (slot ∷ slots) above sorted =
    let rest = slots_rise held (slot + 1) slots (next_from_above slot slots sorted.0) sorted.1 in
    let joined =
    rises_joined (slot * node_words) ((slot + 1) * node_words) rest.0 (free_in_slot held slot)
    (flat_map (free_in_slot held) slots)
    (slot_rises held slot) rest.1 in (
      rest.0,
      rises_lower (low * node_words) (slot * node_words) rest.0
          (free_in_slot held slot ++ flat_map (free_in_slot held) slots)
          (omega (arith, above.0)) joined,
    )

-- The starts of rising parts are in order.
starts_above : (at : ℕ) (low high : ℕ) (parts : List Span) → at < low → Rises low high parts
    → AreAbove at (map start_of parts)
starts_above at low high [] h rises = tt
starts_above at low high (next ∷ parts) h rises = (
  is_less at next.start (omega (arith, rises.0)),
  starts_above at (next.start + size_of next.level) high parts
      (omega (arith, rises.0)) rises.1,
)
  where
    is_less : (a b : ℕ) → a < b → nat_cmp a b ≡ Less
    is_less a b h = grind (arith, nat_tests)

starts_sorted : (low high : ℕ) (parts : List Span) → Rises low high parts
    → IsStrictlySortedBy nat_cmp (map start_of parts)
unfolding IsStrictlySortedBy
starts_sorted low high [] rises = tt
starts_sorted low high (part ∷ parts) rises = (
  starts_above part.start (part.start + size_of part.level) high parts (omega (arith, size_some part.level)) rises.1,
  starts_sorted (part.start + size_of part.level) high parts rises.1,
)

-- Free parts are listed in rising order of their starts where the slots rise.
pub free_parts_rise : (held : List Chunk) (slots : List ℕ) → IsStrictlyIncreasing slots
    → IsStrictlyIncreasing (map start_of (free_parts held slots))
free_parts_rise held slots h =
    IsStrictlyIncreasing-from_sorted _ (starts_sorted (0 * node_words) rises.0 (free_parts held slots) rises.1)
  where
    all_from_zero : (xs : List ℕ) → AreFrom 0 xs
    all_from_zero [] = tt
    all_from_zero (x ∷ xs) = (omega arith, all_from_zero xs)

    rises : (high : ℕ) × Rises (0 * node_words) high (free_parts held slots)
    rises = slots_rise held 0 slots (all_from_zero slots) (sorted_from_strictly_increasing slots h)
