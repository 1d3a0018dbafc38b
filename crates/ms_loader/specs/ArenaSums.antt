-- The totals of a loader's arena as the numbers that they stand for.
use Rattle.std.specs.Prelude.{◌≡◌, ◌+◌, length}
use Rattle.ms_base.specs.declared.kind.Space.{Space}
use Rattle.ms_base.specs.State.{LoaderState, arena_of}
use Rattle.ms_base.specs.Totals.{capacity_of, fronts_of, used_of, kept_of, live_in}
use Rattle.ms_arena.specs.declared.totals.ArenaTotals.{ArenaTotals}

-- The totals are the sums over a loader's arena in a space; waste is what is in use and neither
-- live nor a free block.
pub record AreSumsIn (space : Space) (totals : ArenaTotals) (loader : LoaderState) : Type 0 where
  pub chunks : totals.chunks ≡ length (arena_of space loader).chunks
  pub capacity : totals.capacity ≡ capacity_of (arena_of space loader).chunks
  pub fronts : totals.fronts ≡ fronts_of (arena_of space loader).chunks
  pub used : totals.used ≡ used_of (arena_of space loader)
  pub live : totals.live ≡ live_in space loader
  pub free_blocks : totals.free_blocks ≡ kept_of (arena_of space loader)
  pub waste : totals.used ≡ totals.live + totals.free_blocks + totals.waste
