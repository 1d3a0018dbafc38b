-- What a walk over a table of parts has still to visit: parts side by side, from where it is to the
-- root's end.
use Rattle.std.specs.Prelude.{◌≡◌, ℕ, ◌+◌, ◌-◌, ◌<◌, ◌≤◌, List, [], ◌∷◌}
use Rattle.std.specs.List.{AllByRecursion}
use Rattle.ms_base.specs.declared.span.Span.{Span}
use Rattle.ms_base.specs.Level.{highest_level, size_of}
use Rattle.ms_buddy.specs.declared.part_walk.Seen.{Seen}
use Rattle.ms_buddy.specs.declared.part_walk.Seen.TheVariants.{Free, Lent, Split}
use Rattle.ms_buddy.specs.Leaves.{from_on, span_at}
use Rattle.ms_buddy.specs.Tree.{IsRootPart}

-- The part of a level that starts there shares a word with another.
abbrev pub Meets : ℕ → ℕ → Span → Type 0
Meets level start other = (other.start < start + size_of level) × (start < other.start + size_of other.level)

-- The free leaves that share a word with a part are no larger than it, or smaller.
abbrev pub AreWithin : ℕ → ℕ → List Span → Type 0
AreWithin level start free = AllByRecursion (λ other. Meets level start other → level ≤ other.level) free

abbrev pub AreSmaller : ℕ → ℕ → List Span → Type 0
AreSmaller level start free = AllByRecursion (λ other. Meets level start other → level < other.level) free

-- The parts of these levels lie side by side, the last one first, from an offset to an end. No free
-- leaf is larger than such a part that it meets, and no level is below its number in the row.
abbrev pub IsRow : ℕ → ℕ → List ℕ → ℕ → List Span → Type 0
IsRow number end [] at free = at ≡ end
IsRow number end (level ∷ levels) at free = (number ≤ level) × (size_of level ≤ end) × IsRootPart level (end - size_of level)
    × AreWithin level (end - size_of level) free × IsRow (number + 1) (end - size_of level) levels at free

-- What a visit to a part says of the free leaves from its start on: it is the first of them, or none
-- starts in it, or all that meet it are smaller.
abbrev pub IsSeen : ℕ → ℕ → List Span → Seen → Type 0
IsSeen level start free Free = from_on start free ≡ span_at start level ∷ from_on (start + size_of level) free
IsSeen level start free Lent = from_on start free ≡ from_on (start + size_of level) free
IsSeen level start free Split = (level < highest_level) × AreSmaller level start free
