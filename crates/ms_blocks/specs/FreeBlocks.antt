-- The free blocks that are kept, as runs of words by start, beside the room for more.
use Rattle.std.specs.Prelude.{◌≡◌, ℕ, ◌+◌, ◌^◌, ◌<◌, ◌≤◌, ◌⊎◌, IsTrue, IsFalse, List, [], ◌∷◌, Some, None}
use Rattle.std.specs.List.{AllByRecursion, sum_by}
use Rattle.ms_base.specs.declared.span.Block.{Block}
use Rattle.ms_base.specs.Interval.{meets_any, are_apart}
use Rattle.ms_base.specs.Names.{named, with_new, AreNamed}

-- The runs that are kept, in rising order of start, and how many more may be added.
pub record KeptBlocks : Type 0 where
  pub kept : List (ℕ × ℕ)
  pub room : ℕ

-- A block as a run: its start, and its words.
abbrev pub run_of : Block → ℕ × ℕ
run_of block = (block.start, block.words)

-- The words of the kept runs.
abbrev pub words_in : List (ℕ × ℕ) → ℕ
words_in kept = sum_by (λ (run : ℕ × ℕ). run.1) kept

-- The other run has too few words, or more than the best fit, or as many and starts no lower.
abbrev pub Yields : ℕ → ℕ × ℕ → ℕ × ℕ → Type 0
Yields words best other =
    (other.1 < words) ⊎ ((best.1 < other.1) ⊎ ((best.1 ≡ other.1) × (best.0 ≤ other.0)))

-- The run is kept and has so many words, and all that are kept yield to it (this project's choice).
pub record IsBestFit (kept : List (ℕ × ℕ)) (words : ℕ) (best : ℕ × ℕ) : Type 0 where
  pub is_kept : named kept best.0 ≡ Some best.1
  pub enough : words ≤ best.1
  pub least : AllByRecursion (Yields words best) kept

-- No kept run has so many words.
abbrev pub NoneFits : List (ℕ × ℕ) → ℕ → Type 0
NoneFits kept words = AllByRecursion (λ (run : ℕ × ℕ). run.1 < words) kept

-- A run may be kept beside the others: it has at least two words, and meets none of them.
pub record MayBeKept (kept : List (ℕ × ℕ)) (run : ℕ × ℕ) : Type 0 where
  pub some : 2 ≤ run.1
  pub apart : IsFalse (meets_any run kept)

-- What callers know of the kept runs: their starts rise, no two meet, and each has at least two
-- words.
pub record AreKept (kept : List (ℕ × ℕ)) : Type 0 where
  pub rising : AreNamed kept
  pub apart : IsTrue (are_apart kept)
  pub sizes : AllByRecursion (λ (run : ℕ × ℕ). 2 ≤ run.1) kept

-- Each kept run has an end that is a word number.
abbrev pub EndInWords : List (ℕ × ℕ) → Type 0
EndInWords kept = AllByRecursion (λ (run : ℕ × ℕ). run.0 + run.1 < 2 ^ 64) kept

-- Blocks in any order as runs in rising order of start.
abbrev pub by_start : List Block → List (ℕ × ℕ)
by_start [] = []
by_start (block ∷ blocks) = with_new (by_start blocks) block.start block.words

-- No two of the blocks start at the same word.
abbrev pub StartsDiffer : List Block → Type 0
StartsDiffer [] = Unit {0}
StartsDiffer (block ∷ blocks) = (named (by_start blocks) block.start ≡ None) × StartsDiffer blocks

-- From the word low on the runs lie one behind another, each of at least two words.
abbrev pub LieFrom : ℕ → List (ℕ × ℕ) → Type 0
LieFrom low [] = Unit {0}
LieFrom low (run ∷ runs) = (low ≤ run.0) × (2 ≤ run.1) × LieFrom (run.0 + run.1) runs
