-- A free part is as large as it can be: none lies in a larger one, and none has a free buddy. The
-- laws on the list of free parts and on buddies use these.
use Rattle.std.proofs.Common.{◌≡◌, ◌≤◌, ◌<◌, ℕ, ◌+◌, ◌-◌, ◌*◌, ◌/◌, ◌%◌, false, List, [], ◌∷◌, refl, sym, ap, subst}
use Rattle.std.proofs.Common.{◌∙◌, inl, inr, arith}
use Rattle.std.specs.Prelude.{◌==◌, nat_le, IsTrue, ◌⊎◌}
use Rattle.std.specs.List.{Contains}
use Rattle.std.proofs.lemmas.Nat.{div-add-mod', mod_below}
use Rattle.std.proofs.lemmas.Bool.{cases_lt, or_from, or_parts, or_cases, and_parts, both_ways, eqb-true, leb-true}
use Rattle.std.proofs.lemmas.Bool.Decides.{nat_tests}
use Rattle.std.proofs.lemmas.List.Elements.{All-contains}
use Rattle.std.proofs.Math.Nat.{mul-mod_left, add-mod_right}
use Rattle.ms_base.specs.declared.span.Chunk.{Chunk}
use Rattle.ms_base.specs.declared.span.Span.{Span}
use Rattle.ms_base.specs.Interval.{meet, lies_in}
use Rattle.ms_base.specs.Level.{size_of, highest_level}
use Rattle.ms_base.specs.Part.{IsPart, parent_start}
use Rattle.ms_base.specs.Held.{meets_chunk}
use Rattle.ms_base.specs.FreeParts.{IsFreePart, free_parts}
use Rattle.ms_base.specs.Laws.Free.{LiesIn, AreBuddies}
use Rattle.ms_base.proofs.free.HalvesLemmas.{size_some, size_of_halves, multiple_of_smaller, steps_apart}
use Rattle.ms_base.proofs.free.RoomLemmas.{clear_within, clear_lies_in_free, listed_is_free}

-- A run of words that lies in another, as numbers.
pub inside_bounds : (b t a s : ℕ) → IsTrue (lies_in (b, t) (a, s)) → (a ≤ b) × (b + t ≤ a + s)
inside_bounds b t a s inside = let both = and_parts (nat_le a b) (nat_le (b + t) (a + s)) inside in
    (leb-true a b both.0, leb-true (b + t) (a + s) both.1)

-- The parent starts at the last multiple of its size up to the part.
pub parent_is_whole : (start level : ℕ) → parent_start start level % size_of (level - 1) ≡ 0
parent_is_whole start level = ap (λ (x : ℕ). x % size) (number start size) ∙ mul-mod_left (start / size) size
  where
    size : ℕ
    size = size_of (level - 1)

    number : (a s : ℕ) → a - a % s ≡ a / s * s
    number a s = omega (arith, div-add-mod' a s)

pub parent_around : (start level : ℕ)
    → (parent_start start level ≤ start) × (start < parent_start start level + size_of (level - 1))
parent_around start level = around start (size_of (level - 1)) (size_some (level - 1))
  where
    around : (a s : ℕ) → 1 ≤ s → (a - a % s ≤ a) × (a < a - a % s + s)
    around a s h = (omega arith, omega (arith, mod_below a s (omega arith)))

-- A part ends within its parent.
pub ends_in_parent : (start level : ℕ) → IsPart start level
    → start + size_of level ≤ parent_start start level + size_of (level - 1)
ends_in_parent start level placed =
    steps_apart start (parent_start start level + size_of (level - 1)) (size_of level) placed.1
    (multiple_of_smaller (parent_start start level + size_of (level - 1)) (level - 1) level (omega arith) placed.0
    (add-mod_right (parent_start start level) (size_of (level - 1)) ∙ parent_is_whole start level))
    (parent_around start level).1

-- The parent of a part lies in each larger part that the part lies in.
parent_inside : (start level a k : ℕ) → k < level → level ≤ highest_level → a % size_of k ≡ 0 → a ≤ start
    → start + size_of level ≤ a + size_of k
    → (a ≤ parent_start start level) × (parent_start start level + size_of (level - 1) ≤ a + size_of k)
parent_inside start level a k h m whole from upto = (
  elim (cases_lt (parent_start start level) a) [
    | inl below ↦ absurd (omega (
      arith,
      (parent_around start level).1,
      steps_apart (parent_start start level) a (size_of (level - 1)) (parent_is_whole start level)
          (multiple_of_smaller a k (level - 1) (omega arith) (omega arith) whole) below,
    ))
    | inr above ↦ above
  ],
  steps_apart (parent_start start level) (a + size_of k) (size_of (level - 1)) (parent_is_whole start level)
      (multiple_of_smaller (a + size_of k) k (level - 1) (omega arith) (omega arith)
      (add-mod_right a (size_of k) ∙ whole))
      (omega (arith, (parent_around start level).0, size_some level)),
)

-- A free part that lies in a clear one has its level.
pub free_fills_clear : (held : List Chunk) (slots : List ℕ) (part around : Span) → IsFreePart held slots part
    → IsFreePart held slots around → LiesIn part around → around.level ≡ part.level
free_fills_clear held slots part around free clear within = elim (cases_lt around.level part.level) [
  | inl larger ↦ let bounds =
      inside_bounds part.start (size_of part.level) around.start (size_of around.level) within.inside in
      let parent =
      parent_inside part.start part.level around.start around.level larger free.placed.0 clear.placed.1 bounds.0
      bounds.1 in
      absurd (elim
      (or_cases (part.level == 0) (meets_chunk held (parent_start part.start part.level) (part.level - 1))
      free.largest) [
        | inl root ↦ no_root (eqb-true part.level 0 root) larger
        | inr meets ↦ both_ways (meets_chunk held (parent_start part.start part.level) (part.level - 1))
            (clear_within held around.start around.level (parent_start part.start part.level) (part.level - 1) parent.0
            parent.1 clear.empty) meets
      ])
  | inr same ↦ omega (arith, within.wide)
]
  where
    no_root : part.level ≡ 0 → around.level < part.level → ⊥
    no_root e h = omega arith

-- A part that lies in one of its level is that one.
pub same_part : (part around : Span) → LiesIn part around → around.level ≡ part.level → around ≡ part
same_part part around within level = same around part start level
  where
    start : around.start ≡ part.start
    start = omega (
      arith,
      inside_bounds part.start (size_of part.level) around.start (size_of around.level) within.inside,
      ap size_of level,
    )

    span : ℕ → ℕ → Span
    span start level = record { start = start; level = level }

    same : (a b : Span) → a.start ≡ b.start → a.level ≡ b.level → a ≡ b
    same a b e k = ap (λ (s : ℕ). span s a.level) e ∙ ap (span b.start) k

-- Each free part is listed.
pub free_is_listed : (held : List Chunk) (slots : List ℕ) (part : Span) → IsFreePart held slots part
    → Contains (free_parts held slots) part
free_is_listed held slots part free =
    let found =
    clear_lies_in_free held slots part
    (record { placed = free.placed; reserved = free.reserved; empty = free.empty }) in
    let around =
    All-contains (IsFreePart held slots) (free_parts held slots) found.around (listed_is_free held slots) found.free
    in
    subst (λ (p : Span). Contains (free_parts held slots) p)
    (same_part part found.around found.within
    (free_fills_clear held slots part found.around free around found.within)) found.free

-- What meets a part meets one of its halves.
halves_clear : (held : List Chunk) (start level half : ℕ) → size_of level ≡ size_of half + size_of half
    → meets_chunk held start half ≡ false → meets_chunk held (start + size_of half) half ≡ false
    → meets_chunk held start level ≡ false
halves_clear [] start level half twice lower upper = refl
halves_clear (chunk ∷ held) start level half twice lower upper =
    let low = or_parts (meet chunk.start (size_of chunk.level) start (size_of half)) (meets_chunk held start half) lower
    in
    let high =
    or_parts (meet chunk.start (size_of chunk.level) (start + size_of half) (size_of half))
    (meets_chunk held (start + size_of half) half) upper in
    or_from (meet chunk.start (size_of chunk.level) start (size_of level)) (meets_chunk held start level)
    (apart chunk.start (size_of chunk.level) start (size_of half) (size_of level) (size_some chunk.level) twice low.0
    high.0)
    (halves_clear held start level half twice low.1 high.1)
  where
    apart : (c t a h s : ℕ) → 1 ≤ t → s ≡ h + h → meet c t a h ≡ false → meet c t (a + h) h ≡ false
        → meet c t a s ≡ false
    apart c t a h s some e l u = grind (arith, nat_tests)

-- A part starts where its parent does, or in the middle of it.
leads_or_follows : (start level : ℕ) → size_of (level - 1) ≡ size_of level + size_of level → level ≤ highest_level
    → start % size_of level ≡ 0
    → (start ≡ parent_start start level) ⊎ (start ≡ parent_start start level + size_of level)
leads_or_follows start level twice small whole = elim (cases_lt parent start) [
  | inl past ↦ let upper = steps_apart parent start size multiple whole past in elim (cases_lt (parent + size) start) [
    | inl far ↦
        absurd (omega (
          arith,
          (parent_around start level).1,
          twice,
          steps_apart (parent + size) start size (add-mod_right parent size ∙ multiple) whole far,
        ))
    | inr same ↦ inr (omega (arith, upper))
  ]
  | inr here ↦ inl (omega (arith, (parent_around start level).0))
]
  where
    parent : ℕ
    parent = parent_start start level

    size : ℕ
    size = size_of level

    multiple : parent % size ≡ 0
    multiple = multiple_of_smaller parent (level - 1) level (omega arith) small (parent_is_whole start level)

-- A parent has the words of two parts.
pub parent_is_twice : (level : ℕ) → 1 ≤ level → level ≤ highest_level
    → size_of (level - 1) ≡ size_of level + size_of level
parent_is_twice level h k = ap size_of (omega arith) ∙ size_of_halves (highest_level - level) (omega arith)
    ∙ ap (λ (l : ℕ). size_of l + size_of l) (omega arith)

-- No two free parts are buddies.
pub no_free_buddies : (held : List Chunk) (slots : List ℕ) (part other : Span) → IsFreePart held slots part
    → IsFreePart held slots other → AreBuddies part other → ⊥
no_free_buddies held slots part other first second buddies =
    elim (or_cases (part.level == 0) (meets_chunk held parent (part.level - 1)) first.largest) [
      | inl root ↦ no_root (eqb-true part.level 0 root) buddies.below
      | inr meets ↦ both_ways (meets_chunk held parent (part.level - 1)) parent_clear meets
    ]
  where
    parent : ℕ
    parent = parent_start part.start part.level

    no_root : part.level ≡ 0 → 1 ≤ part.level → ⊥
    no_root e h = omega arith

    twice : size_of (part.level - 1) ≡ size_of part.level + size_of part.level
    twice = parent_is_twice part.level buddies.below first.placed.0

    clear_at : (p : Span) (start : ℕ) → meets_chunk held p.start p.level ≡ false → p.level ≡ part.level
        → p.start ≡ start → meets_chunk held start part.level ≡ false
    clear_at p start empty level e = ap (λ (s : ℕ). meets_chunk held s part.level) (sym e)
        ∙ ap (λ (l : ℕ). meets_chunk held p.start l) (sym level) ∙ empty

    parent_clear : meets_chunk held parent (part.level - 1) ≡ false
    parent_clear = elim (leads_or_follows part.start part.level twice first.placed.0 first.placed.1) [
      | inl leads ↦ halves_clear held parent (part.level - 1) part.level twice
          (clear_at part parent first.empty refl leads)
          (clear_at other (parent + size_of part.level) second.empty buddies.same_level
          (omega (arith, buddies.other_half, leads)))
      | inr follows ↦ halves_clear held parent (part.level - 1) part.level twice
          (clear_at other parent second.empty buddies.same_level (omega (arith, buddies.other_half, follows)))
          (clear_at part (parent + size_of part.level) first.empty refl follows)
    ]
