-- What the code keeps of free blocks, and what callers see of it.
use Rattle.std.specs.Prelude.{◌≡◌, ℕ, ◌+◌, ◌^◌, ◌%◌, ◌<◌, ◌≤◌, List, length}
use Rattle.std.specs.List.{AllByRecursion}
use Rattle.ms_base.specs.declared.span.Block.{Block}
use Rattle.ms_blocks.specs.declared.free_blocks.FreeBlocks.TheInside.{Inside}
use Rattle.ms_blocks.specs.FreeBlocks.{KeptBlocks, by_start, StartsDiffer, LieFrom, words_in}
use Rattle.ms_blocks.specs.Rank.{IsRanked}
use Rattle.ms_blocks.specs.Store.{HasRoom, IsStore, blocks_in}

-- The store's blocks as runs, and the room.
abbrev pub kept_blocks : {A : Type 0} → Inside A → KeptBlocks
kept_blocks f = record { kept = by_start (blocks_in f.store); room = f.room }

-- The blocks are in rank, their runs lie apart, they are counted and summed up to a multiple of
-- 2 ^ 64, and none has more words than the bound.
pub record AreTended (blocks : List Block) (count total most : ℕ) : Type 0 where
  pub ranked : IsRanked blocks
  pub differ : StartsDiffer blocks
  pub laid : LieFrom 0 (by_start blocks)
  pub counted : count ≡ length blocks
  pub summed : total ≡ words_in (by_start blocks) % 2 ^ 64
  pub bounded : AllByRecursion (λ (block : Block). block.words ≤ most) blocks

-- The store has its blocks and the room.
pub record IsTended {A : Type 0} (f : Inside A) : Type 0 where
  pub blocks : AreTended (blocks_in f.store) f.count f.total f.most
  pub store : IsStore f.store
  pub room : HasRoom f.store f.room
  pub fits : f.count + f.room < 2 ^ 64
