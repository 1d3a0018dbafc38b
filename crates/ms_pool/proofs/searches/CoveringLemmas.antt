-- The free leaf that covers an offset: where it lies, and that it meets no lent one. Looking for a
-- buddy uses these.
use Rattle.std.proofs.Common.{◌≡◌, ◌<◌, ◌≤◌, ℕ, ◌+◌, Bool, true, false, cond, List, [], ◌∷◌, map, refl, subst}
use Rattle.std.proofs.Common.{arith, Some}
use Rattle.std.specs.Prelude.{nat_le, nat_lt}
use Rattle.std.specs.List.{AllByRecursion, find}
use Rattle.std.proofs.lemmas.Bool.{and_parts, leb-true, ltb-true}
use Rattle.std.proofs.lemmas.List.Elements.{recursion_from_All}
use Rattle.ms_base.specs.declared.span.Span.{Span}
use Rattle.ms_base.specs.Level.{size_of, highest_level}
use Rattle.ms_base.specs.Held.{meets_chunk}
use Rattle.ms_base.specs.FreeParts.{free_within}
use Rattle.ms_base.proofs.free.FreeLemmas.{IsFreeWithin, listed_are_free}
use Rattle.ms_buddy.specs.Leaves.{LentLeaf, chunk_of, covers, free_of}

-- A free leaf meets no lent one.
found_has : (P : Span → Type 0) (test : Span → Bool) (parts : List Span) (part : Span) → AllByRecursion P parts
    → find test parts ≡ Some part → P part
found_has P test [] part all e = absurd (cc)
found_has P test (p ∷ parts) part all e = go (test p) e (found_has P test parts part all.1)
  where
    go : (b : Bool) → cond b (Some p) (find test parts) ≡ Some part → (find test parts ≡ Some part → P part) → P part
    go true h later = let same : p ≡ part = cc in subst P same all.0
    go false h later = later h

pub free_is_clear : (tree : List LentLeaf) (offset : ℕ) (part : Span) → find (covers offset) (free_of tree) ≡ Some part
    → meets_chunk (map chunk_of tree) part.start part.level ≡ false
unfolding free_of
free_is_clear tree offset part e =
    (found_has (IsFreeWithin (map chunk_of tree) 0 (0 + size_of 0)) (covers offset)
    (free_within (map chunk_of tree) highest_level 0) part
    (recursion_from_All (IsFreeWithin (map chunk_of tree) 0 (0 + size_of 0))
    (free_within (map chunk_of tree) highest_level 0)
    (listed_are_free (map chunk_of tree) highest_level 0 (omega arith) refl refl)) e).empty

pub covers_both : (offset : ℕ) (part : Span) → covers offset part ≡ true
    → (part.start ≤ offset) × (offset < part.start + size_of part.level)
covers_both offset part e =
    let both = and_parts (nat_le part.start offset) (nat_lt offset (part.start + size_of part.level)) e in
    (leb-true part.start offset both.0, ltb-true offset (part.start + size_of part.level) both.1)
