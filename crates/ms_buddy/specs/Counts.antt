-- How many free leaves of each level there are, and what a call does to them.
use Rattle.ms_base.specs.Level.{highest_level, level_count, root_words, size_of}
use Rattle.std.specs.Prelude.{◌≡◌, ℕ, zero, suc, ◌+◌, ◌-◌, ◌/◌, ◌%◌, ◌<◌, ◌≤◌, ◌&&◌, ◌==◌, cond, nat_lt, List, [], ◌∷◌, get_or, length}
use Rattle.std.specs.List.{count_by}
use Rattle.ms_base.specs.declared.span.Span.{Span}

-- How many parts have a level. The word stands for a long one: a proof looks into it where it has
-- to.
unfoldable pub count_at_level : ℕ → List Span → ℕ
count_at_level level parts = count_by (λ part. part.level == level) parts

-- One at a level, and one at each level between two others.
abbrev pub one_at : ℕ → ℕ → ℕ
one_at level other = cond (level == other) 1 0

abbrev pub one_between : ℕ → ℕ → ℕ → ℕ
one_between low high other = cond (nat_lt low other && nat_lt other high) 1 0

-- The number of a part: the root has 1, and the halves of a part have twice its number, and one
-- more.
unfoldable pub number_of : Span → ℕ
number_of part = (root_words + part.start) / size_of part.level

-- How many parts have a number.
unfoldable pub count_of_number : ℕ → List Span → ℕ
count_of_number number parts = count_by (λ part. number_of part == number) parts

-- The halves that a free leaf leaves free, as it is split so many times for the part at an offset.
unfoldable pub halves_beside : ℕ → ℕ → ℕ → ℕ → List Span
halves_beside zero level start at = []
halves_beside (suc times) level start at = cond (nat_lt at (start + size_of (level + 1)))
    (record { start = start + size_of (level + 1); level = level + 1 } ∷ halves_beside times (level + 1) start at)
    (record { start = start; level = level + 1 } ∷ halves_beside times (level + 1) (start + size_of (level + 1)) at)

-- The part of a level in which a part starts.
abbrev pub holder_of : ℕ → Span → Span
holder_of level part = record { start = part.start - part.start % size_of level; level = level }

-- The part of the same level that follows a part.
abbrev pub follower_of : Span → Span
follower_of part = record { start = part.start + size_of part.level; level = part.level }

-- The number of the other half of a part's parent.
abbrev pub buddy_of : ℕ → ℕ
buddy_of number = cond (number % 2 == 0) (number + 1) (number - 1)

-- The halves that stay free as a leaf is split for a part in it.
abbrev pub beside : Span → Span → List Span
beside leaf part = halves_beside (part.level - leaf.level) leaf.level leaf.start part.start

-- A free leaf was parted for a lent part within it: it is gone, and of each level below it, down to
-- that of the part, there is one more, the half that stays free. Turned round it is a merge.
pub record IsParted (before : List Span) (leaf part : Span) (after : List Span) : Type 0 where
  pub low : part.level ≤ highest_level
  pub order : leaf.level ≤ part.level
  pub counts : (other : ℕ) → count_at_level other after + one_at leaf.level other
      ≡ count_at_level other before + one_between leaf.level (part.level + 1) other
  pub numbered : (number : ℕ) → count_of_number number after + count_of_number number (leaf ∷ [])
      ≡ count_of_number number before + count_of_number number (beside leaf part)

-- The counts of the levels are those of the parts.
pub record AreCounts (counts : List ℕ) (parts : List Span) : Type 0 where
  pub full : length counts ≡ level_count
  pub same : (level : ℕ) → level < level_count → get_or counts level 0 ≡ count_at_level level parts

-- The count of each level is raised by so much.
pub record AreRaised (old : List ℕ) (more : ℕ → ℕ) (new : List ℕ) : Type 0 where
  pub full : length new ≡ length old
  pub counts : (level : ℕ) → level < level_count → get_or new level 0 ≡ get_or old level 0 + more level

-- Of the counts one at a level is gone, and one at each level between two others has come.
pub record AreShifted (old : List ℕ) (low high : ℕ) (new : List ℕ) : Type 0 where
  pub full : length new ≡ length old
  pub counts : (level : ℕ) → level < level_count
      → get_or new level 0 + one_at low level ≡ get_or old level 0 + one_between low high level
