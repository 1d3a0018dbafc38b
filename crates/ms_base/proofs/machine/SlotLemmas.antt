-- Reserved slots where one is reserved, and where those without a chunk go.
use Rattle.std.proofs.Common.{◌≡◌, ◌≤◌, ◌+◌, ℕ, Bool, true, false, cond, List, [], ◌∷◌, length, map, refl, ap, ◌∙◌}
use Rattle.std.proofs.Common.{subst, arith, inl, inr}
use Rattle.std.specs.Prelude.{◌==◌}
use Rattle.std.specs.Ordering.{nat_cmp, match_ordering}
use Rattle.std.specs.declared.cmp.Ordering.TheVariants.{Less, Equal, Greater}
use Rattle.std.specs.List.{list_all, filter}
use Rattle.std.specs.List.Sorted.{IsStrictlyIncreasing}
use Rattle.std.specs.Map.{keys_of}
use Rattle.std.specs.BTreeSet.{insert_key}
use Rattle.std.proofs.lemmas.Bool.{and_parts, and_from, or_left, or_right, or_cases, eqb-true}
use Rattle.std.proofs.lemmas.Map.Lookups.{exact_unsigned}
use Rattle.ms_base.specs.declared.span.Chunk.{Chunk}
use Rattle.ms_base.specs.Part.{slot_of, is_reserved}
use Rattle.ms_base.specs.Names.{with_new}
use Rattle.ms_base.specs.Held.{has_chunk_in}
use Rattle.ms_base.proofs.entries.NameLemmas.{rises_with_new}

same : (n : ℕ) → (n == n) ≡ true
same n = grind arith

-- A slot comes among the reserved ones.
pub reserved_with : (slots : List ℕ) (slot : ℕ) → is_reserved (insert_key nat_cmp slots slot) slot ≡ true
reserved_with [] slot = rw (same slot) refl
reserved_with (s ∷ slots) slot =
    elim (nat_cmp slot s) as (λ o. nat_cmp slot s ≡ o
    → is_reserved (match_ordering o (slot ∷ s ∷ slots) (s ∷ slots) (s ∷ insert_key nat_cmp slots slot)) slot
    ≡ true) [
      | Less ↦ λ p. or_left (slot == slot) (is_reserved (s ∷ slots) slot) (same slot)
      | Equal ↦ λ p. or_left (s == slot) (is_reserved slots slot) (rw (exact_unsigned slot s p) (same s))
      | Greater ↦ λ p. or_right (s == slot) (is_reserved (insert_key nat_cmp slots slot) slot)
          (reserved_with slots slot)
    ] refl

pub reserved_still : (slots : List ℕ) (slot other : ℕ) → is_reserved slots other ≡ true
    → is_reserved (insert_key nat_cmp slots slot) other ≡ true
reserved_still [] slot other h = absurd (cc)
reserved_still (s ∷ slots) slot other h =
    elim (nat_cmp slot s) as (λ o. is_reserved
    (match_ordering o (slot ∷ s ∷ slots) (s ∷ slots) (s ∷ insert_key nat_cmp slots slot)) other ≡ true) [
      | Less ↦ or_right (slot == other) (is_reserved (s ∷ slots) other) h
      | Equal ↦ h
      | Greater ↦ elim (or_cases (s == other) (is_reserved slots other) h) [
        | inl here ↦ or_left (s == other) (is_reserved (insert_key nat_cmp slots slot) other) here
        | inr later ↦ or_right (s == other) (is_reserved (insert_key nat_cmp slots slot) other)
            (reserved_still slots slot other later)
      ]
    ]

-- The slots rise still.
abbrev paired : ℕ → ℕ × ℕ
paired slot = (slot, slot)

keys_paired : (slots : List ℕ) → keys_of (map paired slots) ≡ slots
keys_paired [] = refl
keys_paired (s ∷ slots) = ap (λ l. s ∷ l) (keys_paired slots)

inserted : (slots : List ℕ) (slot : ℕ) → keys_of (with_new (map paired slots) slot slot) ≡ insert_key nat_cmp slots slot
inserted [] slot = refl
inserted (s ∷ slots) slot =
    elim (nat_cmp slot s) as (λ o. keys_of
    (match_ordering o ((slot, slot) ∷ (s, s) ∷ map paired slots) ((s, slot) ∷ map paired slots)
    ((s, s) ∷ with_new (map paired slots) slot slot))
    ≡ match_ordering o (slot ∷ s ∷ slots) (s ∷ slots) (s ∷ insert_key nat_cmp slots slot)) [
      | Less ↦ ap (λ l. slot ∷ s ∷ l) (keys_paired slots)
      | Equal ↦ ap (λ l. s ∷ l) (keys_paired slots)
      | Greater ↦ ap (λ l. s ∷ l) (inserted slots slot)
    ]

pub slots_rise_with : (slots : List ℕ) (slot : ℕ) → IsStrictlyIncreasing slots
    → IsStrictlyIncreasing (insert_key nat_cmp slots slot)
slots_rise_with slots slot h =
    subst IsStrictlyIncreasing (inserted slots slot)
    (rises_with_new (map paired slots) slot slot (rw (keys_paired slots) h))

-- A slot that has what is asked stays reserved where the others go.
pub reserved_kept : (p : ℕ → Bool) (slots : List ℕ) (slot : ℕ) → p slot ≡ true → is_reserved slots slot ≡ true
    → is_reserved (filter p slots) slot ≡ true
reserved_kept p [] slot passes h = absurd (cc)
reserved_kept p (s ∷ slots) slot passes h =
    elim (or_cases (s == slot) (is_reserved slots slot) h) [
      | inl here ↦ rw (ap p (eqb-true s slot here) ∙ passes)
          (or_left (s == slot) (is_reserved (filter p slots) slot) here)
      | inr later ↦ kept (p s) (reserved_kept p slots slot passes later)
    ]
  where
    kept : (b : Bool) → is_reserved (filter p slots) slot ≡ true
        → is_reserved (cond b (s ∷ filter p slots) (filter p slots)) slot ≡ true
    kept true h = or_right (s == slot) (is_reserved (filter p slots) slot) h
    kept false h = h

-- The slots of some of the chunks stay reserved where those without any of them go.
pub slots_of_chunks : (all : List Chunk) (slots : List ℕ) (some : List Chunk)
    → list_all (λ (chunk : Chunk). has_chunk_in all (slot_of chunk.start)) some ≡ true
    → list_all (λ (chunk : Chunk). is_reserved slots (slot_of chunk.start)) some ≡ true
    → list_all (λ (chunk : Chunk). is_reserved (filter (has_chunk_in all) slots) (slot_of chunk.start)) some ≡ true
slots_of_chunks all slots [] have reserved = refl
slots_of_chunks all slots (chunk ∷ some) have reserved =
    let has =
    and_parts (has_chunk_in all (slot_of chunk.start))
    (list_all (λ (c : Chunk). has_chunk_in all (slot_of c.start)) some) have in
    let is = and_parts (is_reserved slots (slot_of chunk.start))
    (list_all (λ (c : Chunk). is_reserved slots (slot_of c.start)) some) reserved in
    and_from (is_reserved (filter (has_chunk_in all) slots) (slot_of chunk.start))
    (list_all (λ (c : Chunk). is_reserved (filter (has_chunk_in all) slots) (slot_of c.start)) some)
    (reserved_kept (has_chunk_in all) slots (slot_of chunk.start) has.0 is.0)
    (slots_of_chunks all slots some has.1 is.1)

-- Each chunk lies in its own slot.
has_later : (chunk : Chunk) (held some : List Chunk)
    → list_all (λ (c : Chunk). has_chunk_in held (slot_of c.start)) some ≡ true
    → list_all (λ (c : Chunk). has_chunk_in (chunk ∷ held) (slot_of c.start)) some ≡ true
has_later chunk held [] h = refl
has_later chunk held (c ∷ some) h =
    let both =
    and_parts (has_chunk_in held (slot_of c.start))
    (list_all (λ (d : Chunk). has_chunk_in held (slot_of d.start)) some) h in
    and_from (has_chunk_in (chunk ∷ held) (slot_of c.start))
    (list_all (λ (d : Chunk). has_chunk_in (chunk ∷ held) (slot_of d.start)) some)
    (or_right (slot_of chunk.start == slot_of c.start) (has_chunk_in held (slot_of c.start)) both.0)
    (has_later chunk held some both.1)

pub all_have : (held : List Chunk) → list_all (λ (chunk : Chunk). has_chunk_in held (slot_of chunk.start)) held ≡ true
all_have [] = refl
all_have (chunk ∷ held) =
    and_from (has_chunk_in (chunk ∷ held) (slot_of chunk.start))
    (list_all (λ (c : Chunk). has_chunk_in (chunk ∷ held) (slot_of c.start)) held)
    (or_left (slot_of chunk.start == slot_of chunk.start) (has_chunk_in held (slot_of chunk.start))
    (same (slot_of chunk.start))) (has_later chunk held held (all_have held))

-- One slot is added at most.
pub length_with : (slots : List ℕ) (slot : ℕ) → length (insert_key nat_cmp slots slot) ≤ length slots + 1
length_with [] slot = omega arith
length_with (s ∷ slots) slot =
    elim (nat_cmp slot s) as (λ o. length
    (match_ordering o (slot ∷ s ∷ slots) (s ∷ slots) (s ∷ insert_key nat_cmp slots slot))
    ≤ length (s ∷ slots) + 1) [
      | Less ↦ omega arith
      | Equal ↦ omega arith
      | Greater ↦ omega (arith, length_with slots slot)
    ]
