-- The free part that results where a chunk is taken back: it is one of the free parts of the
-- chunk's space, and holds the chunk's words. The proof of `release` uses them.
use Rattle.std.proofs.Common.{◌≡◌, ◌<◌, ◌≤◌, ℕ, ◌+◌, ◌*◌, ◌/◌, ◌%◌, Bool, true, false, cond, List, [], ◌∷◌, get_or}
use Rattle.std.proofs.Common.{length, map, refl, sym, ap, subst, ◌∙◌, arith, inl, inr, Some, lt-ltb, le-leb, ltb-true}
use Rattle.std.proofs.Common.{leb-true}
use Rattle.std.specs.Prelude.{nat_lt, nat_le}
use Rattle.std.specs.List.{AllByRecursion, find}
use Rattle.std.proofs.lemmas.Bool.{and_parts, cases_lt}
use Rattle.std.proofs.lemmas.Bool.Decides.{nat_tests}
use Rattle.std.proofs.lemmas.List.Elements.{recursion_from_All, All-contains}
use Rattle.ms_base.specs.declared.kind.Space.{Space}
use Rattle.ms_base.specs.declared.kind.Space.TheVariants.{NonClass, Class}
use Rattle.ms_base.specs.declared.span.Chunk.{Chunk}
use Rattle.ms_base.specs.declared.span.Span.{Span}
use Rattle.ms_base.specs.Interval.{lies_in}
use Rattle.ms_base.specs.Level.{size_of, root_words, highest_level}
use Rattle.ms_base.specs.Part.{IsPart, slot_of, is_reserved}
use Rattle.ms_base.specs.Held.{meets_chunk}
use Rattle.ms_base.specs.Spaces.{is_in, first_class_word}
use Rattle.ms_base.specs.FreeParts.{IsFreePart, free_parts, free_within}
use Rattle.ms_base.specs.Laws.Free.{LiesIn, LiesInFree}
use Rattle.ms_base.proofs.free.FreeLemmas.{IsFreeWithin, listed_are_free}
use Rattle.ms_base.proofs.free.HalvesLemmas.{size_some}
use Rattle.ms_base.proofs.free.MovedLemmas.{raised_part}
use Rattle.ms_base.proofs.free.RoomLemmas.{clear_lies_in_free, listed_is_free}
use Rattle.ms_base.proofs.free.LargestLemmas.{free_fills_clear, inside_bounds, same_part}
use Rattle.ms_base.proofs.granules.FreeGranuleLemmas.{bounds_meet, meeting_lies_in}
use Rattle.ms_buddy.specs.Leaves.{LentLeaf, AreLeaves, covers, free_of}
use Rattle.ms_pool.specs.Keeping.{loans_from}
use Rattle.ms_pool.proofs.searches.FreeRootLemmas.{IsRootIn, chunks_there, free_in_root}

-- What holds of each of a list holds of what is found there, and that passes the test.
pub found_has : {X : Type 0} (P : X → Type 0) (test : X → Bool) (xs : List X) (x : X) → AllByRecursion P xs
    → find test xs ≡ Some x → P x
found_has P test [] x all found = absurd (cc)
found_has P test (y ∷ xs) x all found = step (test y) found (found_has P test xs x all.1)
  where
    step : (b : Bool) → cond b (Some y) (find test xs) ≡ Some x → (find test xs ≡ Some x → P x) → P x
    step true e rest = let same : y ≡ x = cc in subst P same all.0
    step false e rest = rest e

pub found_passes : {X : Type 0} (test : X → Bool) (xs : List X) (x : X) → find test xs ≡ Some x → test x ≡ true
found_passes test [] x found = absurd (cc)
found_passes test (y ∷ xs) x found = step (test y) refl found (found_passes test xs x)
  where
    step : (b : Bool) → test y ≡ b → cond b (Some y) (find test xs) ≡ Some x → (find test xs ≡ Some x → test x ≡ true)
        → test x ≡ true
    step true e f rest = let same : y ≡ x = cc in subst (λ z. test z ≡ true) same e
    step false e f rest = rest f

lowered_all : (P : Span → Type 0) (base : ℕ) (parts : List Span) → AllByRecursion P (map (raised_part base) parts)
    → AllByRecursion (λ part. P (raised_part base part)) parts
lowered_all P base [] all = all
lowered_all P base (part ∷ parts) all = (all.0, lowered_all P base parts all.1)

-- A root whose first word lies in a space lies there.
pub root_lies_in : (space : Space) (start : ℕ) → is_in space start ≡ true → IsRootIn space (start / root_words)
root_lies_in NonClass start inside offset within =
    lt-ltb (offset + start / root_words * root_words) first_class_word
    (omega (arith, ltb-true start first_class_word inside))
root_lies_in Class start inside offset within =
    le-leb first_class_word (offset + start / root_words * root_words)
    (omega (arith, leb-true first_class_word start inside))

-- The leaf that was found, moved up, is a free part that holds the word.
pub record IsFreedAt (held : List Chunk) (slots : List ℕ) (start : ℕ) (part : Span) : Type 0 where
  pub free : IsFreePart held slots part
  pub from : part.start ≤ start
  pub under : start < part.start + size_of part.level
  pub low : start / root_words * root_words ≤ part.start
  pub high : part.start + size_of part.level ≤ start / root_words * root_words + root_words

pub freed_part : (space : Space) (trees : List (List LentLeaf)) (slots : List ℕ) (start : ℕ) (part : Span)
    → start / root_words < length trees
    → AllByRecursion AreLeaves trees → is_in space start ≡ true → is_reserved slots (slot_of start) ≡ true
    → find (covers (start % root_words)) (free_of (get_or trees (start / root_words) [])) ≡ Some part
    → IsFreedAt (chunks_there space (loans_from 0 trees)) slots start
    (raised_part (start / root_words * root_words) part)
freed_part space trees slots start part within all inside reserved found = record {
  free = record {
    placed = its.placed;
    reserved =
        ap (is_reserved slots)
        (same_slot (part.start + base) (size_of part.level) start its.from its.upto (size_some part.level)) ∙ reserved;
    empty = its.empty;
    largest = its.largest;
  };
  from = omega (arith, leb-true part.start (start % root_words) parts.0);
  under = omega (arith, ltb-true (start % root_words) (part.start + size_of part.level) parts.1);
  low = its.from;
  high = its.upto;
}
  where
    base : ℕ
    base = start / root_words * root_words

    held : List Chunk
    held = chunks_there space (loans_from 0 trees)

    its : IsFreeWithin held base (base + size_of 0) (raised_part base part)
    its = found_has (λ one. IsFreeWithin held base (base + size_of 0) (raised_part base one))
        (covers (start % root_words)) (free_of (get_or trees (start / root_words) [])) part
        (lowered_all (IsFreeWithin held base (base + size_of 0)) base (free_of (get_or trees (start / root_words) []))
        (subst (AllByRecursion (IsFreeWithin held base (base + size_of 0)))
        (free_in_root space trees (start / root_words) within all (root_lies_in space start inside))
        (recursion_from_All (IsFreeWithin held base (base + size_of 0)) (free_within held highest_level base)
        (listed_are_free held highest_level base (omega arith) (omega arith) refl))))
        found

    parts : (nat_le part.start (start % root_words) ≡ true)
        × (nat_lt (start % root_words) (part.start + size_of part.level) ≡ true)
    parts = and_parts (nat_le part.start (start % root_words))
        (nat_lt (start % root_words) (part.start + size_of part.level))
        (found_passes (covers (start % root_words)) (free_of (get_or trees (start / root_words) [])) part found)

    same_slot : (a s b : ℕ) → b / root_words * root_words ≤ a → a + s ≤ b / root_words * root_words + size_of 0 → 1 ≤ s
        → slot_of a ≡ slot_of b
    same_slot a s b h k some = omega arith

-- A part that is clear lies in the free part that holds its first word.
bounds_lie : (b t a s : ℕ) → a ≤ b → b + t ≤ a + s → lies_in (b, t) (a, s) ≡ true
bounds_lie b t a s h k = grind (arith, nat_tests)

pub lies_in_freed : (held : List Chunk) (slots : List ℕ) (chunk : Chunk) (part : Span) → IsPart chunk.start chunk.level
    → is_reserved slots (slot_of chunk.start) ≡ true
    → meets_chunk held chunk.start chunk.level ≡ false → IsFreedAt held slots chunk.start part
    → chunk.start + size_of chunk.level ≤ part.start + size_of part.level
lies_in_freed held slots chunk part placed reserved clear freed =
    subst (λ (p : Span). chunk.start + size_of chunk.level ≤ p.start + size_of p.level) same bounds.1
  where
    own : Span
    own = record { start = chunk.start; level = chunk.level }

    found : LiesInFree held slots own
    found = clear_lies_in_free held slots own (record { placed = placed; reserved = reserved; empty = clear })

    around : Span
    around = found.around

    free : IsFreePart held slots around
    free = All-contains (IsFreePart held slots) (free_parts held slots) around (listed_is_free held slots) found.free

    bounds : (around.start ≤ chunk.start) × (chunk.start + size_of chunk.level ≤ around.start + size_of around.level)
    bounds = inside_bounds chunk.start (size_of chunk.level) around.start (size_of around.level) found.within.inside

    within : (a b : Span) → IsPart a.start a.level → IsPart b.start b.level → a.level ≤ b.level
        → a.start < b.start + size_of b.level → b.start < a.start + size_of a.level → LiesIn b a
    within a b first second h low high =
        let inside =
        meeting_lies_in a.start a.level b.start b.level first second h
        (bounds_meet a.start (size_of a.level) b.start (size_of b.level) low high) in
        record { wide = h; inside = bounds_lie b.start (size_of b.level) a.start (size_of a.level) inside.0 inside.1 }

    same : around ≡ part
    same = elim (cases_lt part.level around.level) [
      | inl wider ↦ let lies =
          within part around freed.free.placed free.placed (omega arith)
          (omega (arith, freed.from, bounds.1, size_some chunk.level)) (omega (arith, freed.under, bounds.0)) in
          sym (same_part around part lies (free_fills_clear held slots around part free freed.free lies))
      | inr narrower ↦ let lies =
          within around part free.placed freed.free.placed narrower (omega (arith, freed.under, bounds.0))
          (omega (arith, freed.from, bounds.1, size_some chunk.level)) in
          same_part part around lies (free_fills_clear held slots part around freed.free free lies)
    ]

-- The leaf that was found starts by the word.
pub starts_by : (parts : List Span) (start : ℕ) (part : Span) → find (covers (start % root_words)) parts ≡ Some part
    → part.start + start / root_words * root_words ≤ start
starts_by parts start part found = omega (
  arith,
  leb-true part.start (start % root_words)
      (and_parts (nat_le part.start (start % root_words))
      (nat_lt (start % root_words) (part.start + size_of part.level))
      (found_passes (covers (start % root_words)) parts part found)).0,
)
