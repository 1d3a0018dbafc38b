-- Blocks in the order in which best fit takes them: fewer words first, and of as many words the
-- lower start (this project's choice).
use Rattle.std.specs.Prelude.{ℕ, Bool, ◌&&◌, ◌||◌, ◌==◌, nat_lt, nat_le, IsTrue, List, [], ◌∷◌, Option, if◌then◌else◌}
use Rattle.std.specs.List.{find, AllByRecursion}
use Rattle.ms_base.specs.declared.span.Block.{Block}

-- The first block ranks before the second.
abbrev pub ranks_before : Block → Block → Bool
ranks_before a b = nat_lt a.words b.words || (a.words == b.words && nat_lt a.start b.start)

-- Each block ranks before those behind it.
abbrev pub IsRanked : List Block → Type 0
IsRanked [] = Unit {0}
IsRanked (block ∷ blocks) =
    AllByRecursion (λ other. IsTrue (ranks_before block other)) blocks × IsRanked blocks

-- The blocks with another one, behind those that rank before it.
abbrev pub with_ranked : List Block → Block → List Block
with_ranked [] block = block ∷ []
with_ranked (other ∷ blocks) block =
    if ranks_before other block then other ∷ with_ranked blocks block else block ∷ other ∷ blocks

-- The first block that has so many words.
abbrev pub first_fit : List Block → ℕ → Option Block
first_fit blocks words = find (λ (block : Block). nat_le words block.words) blocks

-- The blocks without the first one that has so many words.
abbrev pub without_fit : List Block → ℕ → List Block
without_fit [] words = []
without_fit (block ∷ blocks) words =
    if nat_le words block.words then blocks else block ∷ without_fit blocks words
