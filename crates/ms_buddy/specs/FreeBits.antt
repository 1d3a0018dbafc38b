-- The free leaves of a root as a set of bits, one for each part that there may be.
use Rattle.std.specs.Prelude.{◌≡◌, ℕ, ◌+◌, [], ◌∷◌, ◌/◌, ◌%◌, ◌<◌, ◌≤◌, List, get_or, ◌==◌, cond, nat_lt}
use Rattle.std.specs.Int.{bit_at}
use Rattle.ms_base.specs.declared.span.Span.{Span}
use Rattle.ms_buddy.specs.Counts.{AreCounts, beside, count_of_number}
use Rattle.ms_buddy.specs.Leaves.{LentLeaf}
use Rattle.ms_buddy.specs.Tree.{Node, IsSplit, IsTree, free_in, lent_in}

-- The bit of a number: the one at the position number % 64 of the word number / 64.
abbrev pub bit_of : List ℕ → ℕ → ℕ
bit_of words number = bit_at (get_or words (number / 64) 0) (number % 64)

-- A bit is set exactly where it is that of a free leaf (this project's choice).
abbrev pub AreFreeBits : List ℕ → List Span → Type 0
AreFreeBits words free = (number : ℕ) → bit_of words number ≡ count_of_number number free

-- A second row of bits marks the words that have a bit that is set.
abbrev pub IsFilled : List ℕ → List ℕ → Type 0
IsFilled words filled = (row : ℕ) → bit_of filled row ≡ cond (get_or words row 0 == 0) 0 1

-- What is kept true of a node of the root: how many free leaves it has of each level, and the bits
-- of these.
pub record IsKeptTree (node : Node) (counts words filled : List ℕ) : Type 0 where
  pub tree : IsTree 0 node
  pub counted : AreCounts counts (free_in 0 0 node)
  pub marked : AreFreeBits words (free_in 0 0 node)
  pub told : IsFilled words filled

-- The position is the lowest of a word, from one on, whose bit is set.
pub record IsLowestBit (word from position : ℕ) : Type 0 where
  pub low : from ≤ position
  pub high : position < 64
  pub set : bit_at word position ≡ 1
  pub below : (other : ℕ) → from ≤ other → other < position → bit_at word other ≡ 0

-- The number is the lowest from one on, and below another, whose bit is set.
pub record IsNextSet (words : List ℕ) (from end number : ℕ) : Type 0 where
  pub low : from ≤ number
  pub high : number < end
  pub set : bit_of words number ≡ 1
  pub below : (other : ℕ) → from ≤ other → other < number → bit_of words other ≡ 0

-- The bits of some parts are cleared, and those of others set.
abbrev pub IsMoved : List ℕ → List Span → List Span → List ℕ → Type 0
IsMoved old gone come new = (number : ℕ)
    → bit_of new number + count_of_number number gone ≡ bit_of old number + count_of_number number come

-- The bits of some parts are all set, or all cleared, and the others stay.
abbrev pub ArePut : List ℕ → List Span → ℕ → List ℕ → Type 0
ArePut old parts bit new = (number : ℕ)
    → bit_of new number ≡ cond (nat_lt 0 (count_of_number number parts)) bit (bit_of old number)

-- The bits are such that a free leaf may be parted for a part in it.
pub record MayPart (words : List ℕ) (leaf part : Span) : Type 0 where
  pub gone : (number : ℕ) → count_of_number number (leaf ∷ []) ≤ bit_of words number
  pub come : (number : ℕ) → bit_of words number + count_of_number number (beside leaf part)
      ≤ 1 + count_of_number number (leaf ∷ [])

-- The bits are such that a part and the halves beside it may be joined.
pub record MayJoin (words : List ℕ) (leaf part : Span) : Type 0 where
  pub gone : (number : ℕ) → count_of_number number (beside leaf part) ≤ bit_of words number
  pub come : (number : ℕ) → bit_of words number + count_of_number number (leaf ∷ [])
      ≤ 1 + count_of_number number (beside leaf part)

-- The root is split in such a way that these leaves are lent; where it is split at all there is a
-- entry for each.
pub record IsKept (lent : List LentLeaf) (size : ℕ) (counts words filled : List ℕ) : Type 0 where
  pub node : Node
  pub tree : IsKeptTree node counts words filled
  pub lent_is : lent_in 0 0 node ≡ lent
  pub some : 1 ≤ size
  pub room : IsSplit node → size ≡ 4096
