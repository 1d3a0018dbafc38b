-- What a search tree holds: its blocks from left to right.
use Rattle.std.specs.Prelude.{◌≡◌, List, [], ◌∷◌, ◌++◌, Option, Some, None}
use Rattle.ms_base.specs.declared.span.Block.{Block}
use Rattle.ms_blocks.specs.declared.tree.Tree.{Tree}
use Rattle.ms_blocks.specs.declared.tree.Fork.{Fork}
use Rattle.ms_blocks.specs.declared.tree.Tree.TheVariants.{Empty, Forked'}

-- The blocks of a tree: those to the left, the fork's own, and those to the right.
abbrev pub blocks_of : {A : Type 0} → Tree A → List Block
blocks_of Empty = []
blocks_of (Forked' address left block right height) = blocks_of left ++ block ∷ blocks_of right

-- The blocks to the left of a tree's top.
abbrev pub left_of : {A : Type 0} → Tree A → List Block
left_of Empty = []
left_of (Forked' address left block right height) = blocks_of left

-- The blocks of a fork: those to the left, its own, and those to the right.
abbrev pub blocks_at : {A : Type 0} → Fork A → List Block
blocks_at fork = blocks_of fork.left ++ fork.block ∷ blocks_of fork.right

-- The block on top of a tree is taken, and those on both sides of it stay.
abbrev pub TakesTop : {A : Type 0} → Tree A → List Block → Option Block → Type 0
TakesTop Empty rest taken = taken ≡ None
TakesTop (Forked' address left block right height) rest taken =
    (taken ≡ Some block) × (rest ≡ blocks_of left ++ blocks_of right)

-- The first block is taken, where there is any.
abbrev pub TakesFirst : List Block → Option Block → List Block → Type 0
TakesFirst blocks None rest = (blocks ≡ []) × (rest ≡ [])
TakesFirst blocks (Some block) rest = blocks ≡ block ∷ rest
