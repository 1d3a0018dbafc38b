-- Sums over one arena.
use Rattle.std.specs.Prelude.{◌≡◌, ℕ, ◌+◌, length}
use Rattle.std.specs.List.{sum_by}
use Rattle.ms_base.specs.Totals.{capacity_of, fronts_of, used_of, kept_of}
use Rattle.ms_base.specs.State.{ArenaState}
use Rattle.ms_arena.specs.Arena.{ArenaView, live_runs}
use Rattle.ms_arena.specs.declared.totals.ArenaTotals.{ArenaTotals}

-- The words of the live blocks.
abbrev pub live_of : ArenaView → ℕ
live_of arena = sum_by (λ (run : ℕ × ℕ). run.1) (live_runs arena)

-- The totals are the sums over chunks, tops and free blocks, beside so many live words; waste is
-- what is in use and neither live nor a free block.
pub record AreSumsOf (totals : ArenaTotals) (books : ArenaState) (live : ℕ) : Type 0 where
  pub chunks : totals.chunks ≡ length books.chunks
  pub capacity : totals.capacity ≡ capacity_of books.chunks
  pub fronts : totals.fronts ≡ fronts_of books.chunks
  pub used : totals.used ≡ used_of books
  pub live_words : totals.live ≡ live
  pub free_blocks : totals.free_blocks ≡ kept_of books
  pub waste : totals.used ≡ totals.live + totals.free_blocks + totals.waste

-- They are those of the arena.
abbrev pub AreSums : ArenaTotals → ArenaView → Type 0
AreSums totals arena = AreSumsOf totals arena.books (live_of arena)
