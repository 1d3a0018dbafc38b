-- The lent leaves of a root chunk, in order of address, and what each call does to them. Free
-- leaves are not kept: they are the free parts of the root that the lent leaves leave over.
use Rattle.std.specs.Prelude.{◌≡◌, ℕ, ◌+◌, ◌-◌, ◌<◌, ◌≤◌, Bool, not, cond, ◌&&◌, ◌==◌, nat_le, nat_lt, List, [], ◌∷◌}
use Rattle.std.specs.Prelude.{map, Some, IsTrue, IsFalse}
use Rattle.std.specs.Prelude.{◌↔◌, Result, IsOk, OnOk, IfErr}
use Rattle.std.specs.Int.{bit_at}
use Rattle.std.specs.List.{AllByRecursion, list_any, filter, find}
use Rattle.ms_base.specs.declared.span.Chunk.{Chunk}
use Rattle.ms_base.specs.declared.span.Span.{Span}
use Rattle.ms_base.specs.declared.refusal.Refusal.{Refusal}
use Rattle.ms_base.specs.declared.refusal.Refusal.TheVariants.{NoRoom, OutOfMemory}
use Rattle.ms_buddy.specs.declared.leaf.Leaf.{Leaf}
use Rattle.ms_buddy.specs.declared.leaf.Leaf.TheVariants.{Free, Lent}
use Rattle.ms_base.specs.Interval.{lies_in}
use Rattle.ms_base.specs.Level.{root_words, size_of, highest_level}
use Rattle.ms_base.specs.Part.{IsPart, is_leader, buddy_start}
use Rattle.ms_base.specs.FreeParts.{free_within}

-- A lent leaf: where it starts in the root, its level, who holds it, and its front.
pub record LentLeaf : Type 0 where
  pub start : ℕ
  pub level : ℕ
  pub owner : ℕ
  pub front : ℕ

-- The leaf as a held chunk.
abbrev pub chunk_of : LentLeaf → Chunk
chunk_of leaf = record { start = leaf.start; level = leaf.level; front = leaf.front }

-- The part of the leaf.
abbrev pub span_of : LentLeaf → Span
span_of leaf = record { start = leaf.start; level = leaf.level }

-- The free leaves: the free parts of the root, in order of address.
unfoldable pub free_of : List LentLeaf → List Span
free_of lent = free_within (map chunk_of lent) highest_level 0

-- The part of that level at an offset.
abbrev pub span_at : ℕ → ℕ → Span
span_at at level = record { start = at; level = level }

-- The whole root.
abbrev pub root : Span
root = record { start = 0; level = 0 }

-- The words of a part.
abbrev pub words_of : Span → ℕ × ℕ
words_of part = (part.start, size_of part.level)

-- The parts are one.
abbrev pub is_same : Span → Span → Bool
is_same part other = (other.start == part.start) && (other.level == part.level)

-- The part has that level, and it starts at the offset or past it as well.
abbrev pub is_of : ℕ → Span → Bool
is_of level part = part.level == level

abbrev pub is_of_from : ℕ → ℕ → Span → Bool
is_of_from level from part = is_of level part && nat_le from part.start

-- The parts that start at an offset or past it.
abbrev pub from_on : ℕ → List Span → List Span
from_on at parts = filter (λ part. nat_le at part.start) parts

-- The bit of a level is set.
abbrev pub has_level : ℕ → ℕ → Bool
has_level levels level = bit_at levels level == 1

-- The part is a lent leaf.
abbrev pub is_lent : List LentLeaf → Span → Bool
is_lent lent part = list_any (λ leaf. is_same part (span_of leaf)) lent

-- The offset is in the part.
abbrev pub covers : ℕ → Span → Bool
covers offset part = nat_le part.start offset && nat_lt offset (part.start + size_of part.level)

-- The part lies in one of the free leaves.
abbrev pub fits_in : Span → List Span → Bool
fits_in part free = list_any (λ other. lies_in (words_of part) (words_of other)) free

-- The part can become its parent: it is no root, it is the leader, and its buddy is one of the free
-- leaves (HotSpot, rootChunkArea.cpp).
abbrev pub can_enlarge : Span → List Span → Bool
can_enlarge part free =
    nat_lt 0 part.level && is_leader part.start part.level
    && list_any (is_same (record { start = buddy_start part.start part.level; level = part.level })) free

-- The parent of a leader.
abbrev pub parent_of : Span → Span
parent_of part = record { start = part.start; level = part.level - 1 }

-- The leaf of a part, with its holder and its front.
abbrev pub leaf_of : Span → ℕ → ℕ → LentLeaf
leaf_of part owner front = record { start = part.start; level = part.level; owner = owner; front = front }

-- A front has a word at least, and so many at most.
abbrev pub IsFront : ℕ → ℕ → Type 0
IsFront most front = (0 < front) × (front ≤ most)

-- Why a part isn't lent: it lies in no free leaf, or it lies in one and memory is wanting.
abbrev pub IsCarveRefusal : Span → List Span → Refusal → Type 0
IsCarveRefusal part free (NoRoom level) = (level ≡ part.level) × IsFalse (fits_in part free)
IsCarveRefusal part free OutOfMemory = IsTrue (fits_in part free) × IsFalse (list_any (is_same part) free)
IsCarveRefusal part free _ = ⊥

-- What lending a part answers, by the leaves that are free before: it is lent only where it lies in
-- one of them, and a refusal says why.
pub record CarveAnswers {A : Type 0} (part : Span) (free : List Span) (result : Result A Refusal) : Type 0 where
  pub room : OnOk result (IsTrue (fits_in part free))
  pub refusal : IfErr result (λ refusal. IsCarveRefusal part free refusal)

-- What making a lent part its parent answers, by the leaves that are free before: it succeeds
-- exactly where the part can become its parent, and a refusal has its level.
pub record EnlargeAnswers {A : Type 0} (part : Span) (free : List Span) (result : Result A Refusal) : Type 0 where
  pub room : IsOk result ↔ IsTrue (can_enlarge part free)
  pub refusal : IfErr result (λ refusal. refusal ≡ NoRoom part.level)

-- One more leaf, in its place.
abbrev pub with_leaf : LentLeaf → List LentLeaf → List LentLeaf
with_leaf added [] = added ∷ []
with_leaf added (leaf ∷ lent) = cond (nat_lt leaf.start added.start) (leaf ∷ with_leaf added lent) (added ∷ leaf ∷ lent)

-- All but the leaf of that part.
abbrev pub without_leaf : Span → List LentLeaf → List LentLeaf
without_leaf part lent = filter (λ leaf. not (is_same part (span_of leaf))) lent

-- The leaf of that part has another front.
abbrev pub with_front : Span → ℕ → List LentLeaf → List LentLeaf
with_front part front lent = map (λ leaf. cond (is_same part (span_of leaf)) (record leaf { front = front }) leaf) lent

-- The leaf of that part becomes its parent, with another front.
abbrev pub with_parent : Span → ℕ → List LentLeaf → List LentLeaf
with_parent part front lent =
    map (λ leaf. cond (is_same part (span_of leaf)) (record leaf { level = leaf.level - 1; front = front }) leaf) lent

-- The leaf that covers an offset: the free leaf that does, or the lent one.
abbrev pub IsLeafAt : ℕ → Span → Leaf → List LentLeaf → List Span → Type 0
IsLeafAt offset part Free lent free = find (covers offset) free ≡ Some part
IsLeafAt offset part (Lent owner front) lent free =
    find (λ leaf. covers offset (span_of leaf)) lent ≡ Some (leaf_of part owner front)

-- The leaf of that level which starts there is lent, and is that.
abbrev pub LendsAt : List LentLeaf → ℕ → ℕ → Leaf → Type 0
LendsAt lent level start Free = ⊥
LendsAt lent level start (Lent owner front) =
    IsTrue (is_lent lent (span_at start level)) × ((offset : ℕ) → IsTrue (covers offset (span_at start level))
    → find (λ leaf. covers offset (span_of leaf)) lent ≡ Some (leaf_of (span_at start level) owner front))

-- A leaf ends before each later one starts.
abbrev pub AreInOrder : List LentLeaf → Type 0
AreInOrder [] = Unit {0}
AreInOrder (leaf ∷ lent) =
    AllByRecursion (λ later. leaf.start + size_of leaf.level ≤ later.start) lent × AreInOrder lent

-- What is true of the lent leaves of each tree: they are parts of the root, each front has a word
-- and fits, and they stand in order of address and share no word.
pub record AreLeaves (lent : List LentLeaf) : Type 0 where
  pub parts : AllByRecursion (λ leaf. IsPart leaf.start leaf.level) lent
  pub in_root : AllByRecursion (λ leaf. leaf.start + size_of leaf.level ≤ root_words) lent
  pub fronts : AllByRecursion (λ leaf. IsFront (size_of leaf.level) leaf.front) lent
  pub in_order : AreInOrder lent
