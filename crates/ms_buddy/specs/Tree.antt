-- A root as it is split, and what a part of it stands for, given its level and where it starts.
use Rattle.std.specs.Prelude.{◌≡◌, ℕ, ◌+◌, ◌<◌, ◌≤◌, ◌%◌, Bool, true, false, ◌&&◌}
use Rattle.std.specs.Prelude.{List, [], ◌∷◌, ◌++◌, IsFalse}
use Rattle.ms_base.specs.declared.span.Span.{Span}
use Rattle.ms_base.specs.Level.{root_words, size_of, highest_level}
use Rattle.ms_base.specs.Part.{IsPart}
use Rattle.ms_buddy.specs.Leaves.{IsFront, LentLeaf}

-- A part of a root: a free leaf, a leaf that is lent to an owner with a front, or split in its
-- halves. No code has it: it is there for each root, and says how the lent leaves and the free ones
-- lie together.
pub data Node : Type 0 where
  Free : Node
  Lent : (owner front : ℕ) → Node
  Split : (lower upper : Node) → Node

-- What a node stands for: a part of the root.
pub record IsRootPart (level start : ℕ) : Type 0 where
  pub level_fits : level ≤ highest_level
  pub aligned : start % size_of level ≡ 0
  pub in_root : start + size_of level ≤ root_words

-- The node is one free leaf.
abbrev pub is_free : Node → Bool
is_free Free = true
is_free (Lent owner front) = false
is_free (Split lower upper) = false

-- No split has two free halves or is of level 12, and each front has a word and fits.
abbrev pub IsTree : ℕ → Node → Type 0
IsTree level Free = Unit {0}
IsTree level (Lent owner front) = IsFront (size_of level) front
IsTree level (Split lower upper) =
    (level < highest_level) × IsFalse (is_free lower && is_free upper) × IsTree (level + 1) lower
    × IsTree (level + 1) upper

-- The lent leaves of the node, in order of address.
abbrev pub lent_in : ℕ → ℕ → Node → List LentLeaf
lent_in level start Free = []
lent_in level start (Lent owner front) = record { start = start; level = level; owner = owner; front = front } ∷ []
lent_in level start (Split lower upper) =
    lent_in (level + 1) start lower ++ lent_in (level + 1) (start + size_of (level + 1)) upper

-- The free leaves of the node, in order of address.
abbrev pub free_in : ℕ → ℕ → Node → List Span
free_in level start Free = record { start = start; level = level } ∷ []
free_in level start (Lent owner front) = []
free_in level start (Split lower upper) =
    free_in (level + 1) start lower ++ free_in (level + 1) (start + size_of (level + 1)) upper

-- The lent leaves of two halves of a part of that level, and their free leaves.
abbrev pub lent_in_halves : ℕ → ℕ → Node → Node → List LentLeaf
lent_in_halves level start lower upper =
    lent_in (level + 1) start lower ++ lent_in (level + 1) (start + size_of (level + 1)) upper

abbrev pub free_in_halves : ℕ → ℕ → Node → Node → List Span
free_in_halves level start lower upper =
    free_in (level + 1) start lower ++ free_in (level + 1) (start + size_of (level + 1)) upper

-- The part is split.
abbrev pub IsSplit : Node → Type 0
IsSplit Free = ⊥
IsSplit (Lent owner front) = ⊥
IsSplit (Split lower upper) = Unit {0}

-- The part lies in that part of a lower or the same level.
pub record IsInside (level start : ℕ) (part : Span) : Type 0 where
  pub low : level ≤ part.level
  pub from : start ≤ part.start
  pub to : part.start + size_of part.level ≤ start + size_of level

-- Two nodes are the halves of that part of the root.
pub record AreHalves (level start : ℕ) (lower upper : Node) : Type 0 where
  pub low : level < highest_level
  pub of_root : IsRootPart level start
  pub trees : IsTree (level + 1) lower × IsTree (level + 1) upper

-- In a node for that part of the root the part may be lent with that front.
pub record MayBeLent (level start : ℕ) (part : Span) (front : ℕ) : Type 0 where
  pub of_root : IsRootPart level start
  pub is_part : IsPart part.start part.level
  pub inside : IsInside level start part
  pub fits : IsFront (size_of part.level) front
