-- The free blocks of an arena, of which some came since the others were put in order.
use Rattle.std.specs.Prelude.{◌≡◌, ℕ, ◌^◌, ◌%◌, List, [], ◌∷◌}
use Rattle.ms_base.specs.Names.{with_new}
use Rattle.ms_blocks.specs.FreeBlocks.{MayBeKept, words_in}

-- The runs that are kept, in rising order of start, how many more there is room for, and how many
-- came since the others were put in order.
pub record KeptView : Type 0 where
  pub kept : List (ℕ × ℕ)
  pub room : ℕ
  pub came : ℕ

-- The runs with more, one after the other.
abbrev pub with_all : List (ℕ × ℕ) → List (ℕ × ℕ) → List (ℕ × ℕ)
with_all kept [] = kept
with_all kept (run ∷ runs) = with_all (with_new kept run.0 run.1) runs

-- Each of them may be kept beside the runs and those before it.
abbrev pub MayAllBeKept : List (ℕ × ℕ) → List (ℕ × ℕ) → Type 0
MayAllBeKept kept [] = Unit {0}
MayAllBeKept kept (run ∷ runs) = MayBeKept kept run × MayAllBeKept (with_new kept run.0 run.1) runs

-- They came to the runs, and their words are summed.
pub record HaveCome (kept came : List (ℕ × ℕ)) (words : ℕ) : Type 0 where
  pub may : MayAllBeKept kept came
  pub summed : words ≡ words_in came % 2 ^ 64
