-- What stands among the free parts of a part: only free ones, and each that has a clear part within
-- it. The laws on free parts and on room use these.
use Rattle.std.proofs.Common.{◌≡◌, ◌≤◌, ◌<◌, ℕ, zero, suc, ◌+◌, ◌-◌, ◌%◌, Bool, true, false, cond, ◌&&◌, ◌||◌, List, []}
use Rattle.std.proofs.Common.{◌∷◌, ◌++◌, refl, sym, ap, ◌∙◌, inl, inr, arith}
use Rattle.std.specs.Prelude.{◌==◌, nat_le, IsTrue, IsFalse}
use Rattle.std.specs.List.{All, list_any}
use Rattle.std.proofs.lemmas.List.Elements.{All-nil, All-cons, All-append, All-weaker}
use Rattle.std.proofs.lemmas.Bool.{cases_lt, or_left, or_right, false≢true}
use Rattle.std.proofs.lemmas.Bool.Decides.{nat_tests}
use Rattle.std.proofs.lemmas.List.Folds.{list_any-append}
use Rattle.ms_base.specs.declared.span.Chunk.{Chunk}
use Rattle.ms_base.specs.declared.span.Span.{Span}
use Rattle.ms_base.specs.Interval.{lies_in}
use Rattle.ms_base.specs.Level.{size_of, highest_level}
use Rattle.ms_base.specs.Part.{IsPart, parent_start}
use Rattle.ms_base.specs.Held.{meets_chunk}
use Rattle.ms_base.specs.FreeParts.{free_within}
use Rattle.ms_base.proofs.free.HalvesLemmas.{words_over, IsStart, size_of_halves, multiple_of_smaller, steps_apart}
use Rattle.ms_base.proofs.free.HalvesLemmas.{start_is_whole, middle_is_whole, parent_of_lower, parent_of_upper}

-- The part with so many levels below it.
abbrev pub part_over : ℕ → ℕ → Span
part_over below start = record { start = start; level = highest_level - below }

-- The part with so many levels below it meets a chunk.
abbrev pub meets_over : List Chunk → ℕ → ℕ → Bool
meets_over held below start = meets_chunk held start (highest_level - below)

-- What has to be shown of the free parts of a part: where it has none, where it is one itself, and
-- where they are those of its two halves.
pub record HoldsByHalves (held : List Chunk) (P : ℕ → ℕ → List Span → Type 0) : Type 0 where
  pub none : (start : ℕ) → IsStart 0 start → meets_over held 0 start ≡ true → P 0 start []
  pub itself :
      (below start : ℕ) → below ≤ highest_level → IsStart below start → meets_over held below start ≡ false
      → P below start (part_over below start ∷ [])
  pub halves :
      (below start : ℕ) (lower upper : List Span) → below < highest_level → IsStart (suc below) start
      → meets_over held (suc below) start ≡ true
      → P below start lower → P below (start + words_over below) upper → P (suc below) start (lower ++ upper)

pub by_halves : (held : List Chunk) (P : ℕ → ℕ → List Span → Type 0) → HoldsByHalves held P
    → (below start : ℕ) → below ≤ highest_level → IsStart below start → P below start (free_within held below start)
by_halves held P steps zero start h whole =
    elim (meets_over held 0 start) as (λ b. meets_over held 0 start ≡ b
    → P 0 start (cond b [] (part_over 0 start ∷ []))) [
      | true ↦ λ meets. steps.none start whole meets
      | false ↦ λ clear. steps.itself 0 start h whole clear
    ] refl
by_halves held P steps (suc below) start h whole =
    elim (meets_over held (suc below) start) as (λ b. meets_over held (suc below) start ≡ b
    → P (suc below) start (cond b (lower ++ upper) itself)) [
      | true ↦ λ meets. steps.halves below start lower upper (omega arith) whole meets
          (by_halves held P steps below start (omega arith) (start_is_whole below start h whole))
          (by_halves held P steps below (start + words_over below) (omega arith) (middle_is_whole below start h whole))
      | false ↦ λ clear. steps.itself (suc below) start h whole clear
    ] refl
  where
    lower : List Span
    lower = free_within held below start

    upper : List Span
    upper = free_within held below (start + words_over below)

    itself : List Span
    itself = part_over (suc below) start ∷ []

-- The test whether a free part has the part within it.
abbrev pub has_part : Span → Span → Bool
has_part part around =
    nat_le around.level part.level && lies_in (part.start, size_of part.level) (around.start, size_of around.level)

-- A part lies within the one that starts there with so many levels below it.
pub record IsInside (part : Span) (below start : ℕ) : Type 0 where
  pub wide : highest_level - below ≤ part.level
  pub from : start ≤ part.start
  pub upto : part.start + size_of part.level ≤ start + words_over below

inside_passes : (part : Span) (below start : ℕ) → IsInside part below start
    → has_part part (part_over below start) ≡ true
inside_passes part below start h =
    passes part.level part.start (size_of part.level) (highest_level - below) start
    (words_over below) h.wide h.from h.upto
  where
    passes : (l a t k b s : ℕ) → k ≤ l → b ≤ a → a + t ≤ b + s → (nat_le k l && lies_in (a, t) (b, s)) ≡ true
    passes l a t k b s h m n = grind (arith, nat_tests)

-- A clear part isn't of the level of one that it lies in and that meets a chunk.
not_itself : (held : List Chunk) (part : Span) (below start : ℕ) → IsFalse (meets_chunk held part.start part.level)
    → IsInside part below start → meets_over held below start ≡ true → part.level ≡ highest_level - below → ⊥
not_itself held part below start empty inside meets level = false≢true
    (sym empty ∙ ap (λ (l : ℕ). meets_chunk held part.start l) level ∙ ap (λ (s : ℕ). meets_over held below s) same
    ∙ meets)
  where
    same : part.start ≡ start
    same = omega (arith, ap size_of level, inside.from, inside.upto)

-- A part that is inside one, and not that one, is inside one of the two halves.
in_lower : (part : Span) (below start : ℕ) → below < highest_level → IsPart part.start part.level
    → IsStart (suc below) start
    → IsInside part (suc below) start → (part.level ≡ highest_level - suc below → ⊥)
    → part.start < start + words_over below
    → IsInside part below start
in_lower part below start h placed whole inside other low = record {
  wide = omega (arith, inside.wide, other);
  from = inside.from;
  upto = steps_apart part.start (start + words_over below) (size_of part.level) placed.1 middle low;
}
  where
    middle : (start + words_over below) % size_of part.level ≡ 0
    middle = multiple_of_smaller (start + words_over below) (highest_level - below) part.level
        (omega (arith, inside.wide, other))
        placed.0
        (middle_is_whole below start h whole)

in_upper : (part : Span) (below start : ℕ) → below < highest_level → IsInside part (suc below) start
    → (part.level ≡ highest_level - suc below → ⊥) → start + words_over below ≤ part.start
    → IsInside part below (start + words_over below)
in_upper part below start h inside other high =
    record {
      wide = omega (arith, inside.wide, other);
      from = high;
      upto = omega (arith, inside.upto, size_of_halves below h);
    }

-- Among the free parts of a part is one that has each clear part within it.
pub clear_is_in_free : (held : List Chunk) (part : Span) → IsPart part.start part.level
    → IsFalse (meets_chunk held part.start part.level) → (below start : ℕ) → below ≤ highest_level → IsStart below start
    → IsInside part below start → list_any (has_part part) (free_within held below start) ≡ true
clear_is_in_free held part placed empty =
    by_halves held (λ below start parts. IsInside part below start → list_any (has_part part) parts ≡ true) (record {
      none = λ start whole meets inside. absurd
          (not_itself held part 0 start empty inside meets (omega (arith, inside.wide, placed.0)));
      itself = λ below start h whole clear inside. or_left (has_part part (part_over below start)) false
          (inside_passes part below start inside);
      halves = λ below start lower upper h whole meets in_first in_second inside.
          let other = not_itself held part (suc below) start empty inside meets in
          list_any-append (has_part part) lower upper ∙ elim (cases_lt part.start (start + words_over below)) [
            | inl low ↦ or_left (list_any (has_part part) lower) (list_any (has_part part) upper)
                (in_first (in_lower part below start h placed whole inside other low))
            | inr high ↦ or_right (list_any (has_part part) lower) (list_any (has_part part) upper)
                (in_second (in_upper part below start h inside other high))
          ];
    })

-- A part among the free parts from low up to high: it meets no chunk, and its parent meets one.
pub record IsFreeWithin (held : List Chunk) (low high : ℕ) (part : Span) : Type 0 where
  pub placed : IsPart part.start part.level
  pub empty : IsFalse (meets_chunk held part.start part.level)
  pub largest : IsTrue (part.level == 0 || meets_chunk held (parent_start part.start part.level) (part.level - 1))
  pub from : low ≤ part.start
  pub upto : part.start + size_of part.level ≤ high

pub widened : (held : List Chunk) (low high a b : ℕ) (parts : List Span) → a ≤ low → high ≤ b
    → All (IsFreeWithin held low high) parts → All (IsFreeWithin held a b) parts
widened held low high a b parts h k all =
    All-weaker (IsFreeWithin held low high) (IsFreeWithin held a b) wider parts all
  where
    wider : (part : Span) → IsFreeWithin held low high part → IsFreeWithin held a b part
    wider part free = record {
      placed = free.placed;
      empty = free.empty;
      largest = free.largest;
      from = omega (arith, free.from);
      upto = omega (arith, free.upto);
    }

-- The part is a root, or its parent meets a chunk.
abbrev IsLargest : List Chunk → ℕ → ℕ → Type 0
IsLargest held below start =
    IsTrue ((highest_level - below) == 0 || meets_chunk held
    (parent_start start (highest_level - below)) (highest_level - below - 1))

-- A half of a part that meets a chunk is as large as it can be.
half_is_largest : (held : List Chunk) (below start half : ℕ) → below < highest_level
    → parent_start half (highest_level - below) ≡ start
    → meets_over held (suc below) start ≡ true → IsLargest held below half
half_is_largest held below start half h parent meets =
    or_right ((highest_level - below) == 0)
    (meets_chunk held (parent_start half (highest_level - below)) (highest_level - below - 1))
    (ap (λ (s : ℕ). meets_chunk held s (highest_level - below - 1)) parent
    ∙ ap (λ (l : ℕ). meets_chunk held start l) (omega arith)
    ∙ meets)

-- The parts are free ones of the part, if it is as large as it can be.
abbrev AreFreeOver : List Chunk → ℕ → ℕ → List Span → Type 0
AreFreeOver held below start parts = IsLargest held below start
    → All (IsFreeWithin held start (start + words_over below)) parts

-- All that stands among the free parts of a part is free and within it.
pub listed_are_free : (held : List Chunk) (below start : ℕ) → below ≤ highest_level → IsStart below start
    → AreFreeOver held below start (free_within held below start)
listed_are_free held = by_halves held (AreFreeOver held) (record {
  none = λ start whole meets largest. All-nil (IsFreeWithin held start (start + words_over 0));
  itself = λ below start h whole clear largest. All-cons (IsFreeWithin held start (start + words_over below))
      (part_over below start) []
      (record {
        placed = (omega arith, whole);
        empty = clear;
        largest = largest;
        from = omega arith;
        upto = omega arith;
      })
      (All-nil (IsFreeWithin held start (start + words_over below)));
  halves = λ below start lower upper h whole meets first second largest.
      let middle = start + words_over below in
      let end = start + words_over (suc below) in
      All-append (IsFreeWithin held start end) lower upper
      (widened held start middle start end lower (omega arith) (omega (arith, size_of_halves below h))
      (first (half_is_largest held below start start h (parent_of_lower below start h whole) meets)))
      (widened held middle (middle + words_over below) start end upper (omega arith)
      (omega (arith, size_of_halves below h))
      (second (half_is_largest held below start middle h (parent_of_upper below start h whole) meets)));
})
