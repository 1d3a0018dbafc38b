-- Blocks by rank, in trees by size: one for each number of words below 32, and above that for
-- ranges of sizes, the last with all from 458,752 on (this project's choice).
use Rattle.std.specs.Prelude.{◌≡◌, ◌≢◌, ℕ, ◌+◌, ◌<◌, List, [], ◌∷◌, ◌++◌, length, min, slice_get, Some}
use Rattle.std.specs.Prelude.{None, nat_lt, ◌/◌, if◌then◌else◌}
use Rattle.std.specs.Int.{bit_at}
use Rattle.std.specs.List.{AllByRecursion}
use Rattle.ms_base.specs.declared.span.Block.{Block}
use Rattle.ms_blocks.specs.declared.tree.Tree.{Tree}
use Rattle.ms_blocks.specs.Rank.{first_fit}
use Rattle.ms_blocks.specs.Tree.{blocks_of}

-- The number of the tree in which blocks of so many words are.
abbrev pub class_of : ℕ → ℕ
class_of words =
    if nat_lt words 32 then words
    else if nat_lt words 64 then 28 + words / 8
    else if nat_lt words 256 then 34 + words / 32
    else if nat_lt words 2048 then 42 + words / 512
    else if nat_lt words 32768 then 46 + words / 8192
    else 49 + min (words / 32768) 14

-- The blocks of trees, one tree after the other.
abbrev pub all_of : {A : Type 0} → List (Tree A) → List Block
all_of [] = []
all_of (tree ∷ trees) = blocks_of tree ++ all_of trees

-- The blocks are of one class.
abbrev pub AreOf : ℕ → List Block → Type 0
AreOf class blocks = AllByRecursion (λ (block : Block). class_of block.words ≡ class) blocks

-- Each block of a tree is of its class, counted on from the first tree's.
abbrev pub AreClassed : {A : Type 0} → ℕ → List (Tree A) → Type 0
AreClassed class [] = Unit {0}
AreClassed class (tree ∷ trees) = AreOf class (blocks_of tree) × AreClassed (class + 1) trees

-- A bit is 1 where there are blocks, and else 0.
abbrev pub TellsWhether : ℕ → List Block → Type 0
TellsWhether bit blocks = (bit ≡ 0 → blocks ≡ []) × (bit ≡ 1 → blocks ≢ [])

-- The bit of each class is set where its tree has blocks.
abbrev pub TellsOf : {A : Type 0} → ℕ → List (Tree A) → Type 0
TellsOf some trees =
    (class : ℕ) (tree : _) → slice_get trees class ≡ Some tree → TellsWhether (bit_at some class) (blocks_of tree)

-- There is a tree for each class, with its blocks, and a bit.
pub record AreByClass {A : Type 0} (some : ℕ) (trees : List (Tree A)) : Type 0 where
  pub there : length trees ≡ 64
  pub classed : AreClassed 0 trees
  pub tells : TellsOf some trees

-- No block of a class has so many words.
abbrev pub NoneFitsAt : {A : Type 0} → List (Tree A) → ℕ → ℕ → Type 0
NoneFitsAt trees class words =
    (tree : _) → slice_get trees class ≡ Some tree → first_fit (blocks_of tree) words ≡ None

-- The next class whose bit is 1.
pub record IsNextClass (some class next : ℕ) : Type 0 where
  pub within : next < 64
  pub from : class < next
  pub past : (other : ℕ) → class < other → other < next → bit_at some other ≡ 0
  pub one : bit_at some next ≡ 1
