-- The sums over a loader, from those over its arenas. `Loader::totals` uses these.
use Rattle.std.proofs.Common.{◌≡◌, ℕ, length, sym, ap, ◌∙◌}
use Rattle.std.specs.List.{sum_by}
use Rattle.ms_base.specs.declared.kind.Space.{Space}
use Rattle.ms_base.specs.State.{ArenaState, arena_of}
use Rattle.ms_base.specs.Totals.{capacity_of, fronts_of, used_of, kept_of, live_in}
use Rattle.ms_arena.specs.ArenaSums.{AreSumsOf}
use Rattle.ms_arena.proofs.HoldLemmas.{IsWithin, held_within}
use Rattle.ms_arena.specs.declared.totals.ArenaTotals.{ArenaTotals}
use Rattle.ms_loader.specs.LoaderInside.{IsLoader, named_runs, view_of}
use Rattle.ms_loader.specs.ArenaSums.{AreSumsIn}
use Rattle.ms_loader.specs.declared.loader.Loader.TheInside.{Inside}
use Rattle.ms_loader.proofs.calls.NamedRunLemmas.{runs_are}
use Rattle.ms_loader.proofs.calls.ViewLemmas.{arena_in, books_of, is_arena, words_at}

-- The live words of an arena are those that it counts.
pub within : (a : Inside) → IsLoader a → (space : Space)
    → IsWithin (arena_in space a) (named_runs space a.names.entries)
within a its space = held_within (arena_in space a) (named_runs space a.names.entries)
    (is_arena a its space).holds

pub live_is : (a : Inside) → IsLoader a → (space : Space)
    → (arena_in space a).total ≡ live_in space (view_of a).state
live_is a its space =
    (within a its space).total
    ∙ sym (ap (sum_by (λ (run : ℕ × ℕ). run.1)) (runs_are (words_at a) a.names.entries space))

pub sums_of_arena : (a : Inside) → IsLoader a → (space : Space) (totals : ArenaTotals)
    → AreSumsOf totals (arena_in space a).books (arena_in space a).total
    → AreSumsIn space totals (view_of a).state
sums_of_arena a its space totals sums = record {
  chunks = sums.chunks ∙ ap (λ (books : ArenaState). length books.chunks) same;
  capacity = sums.capacity ∙ ap (λ (books : ArenaState). capacity_of books.chunks) same;
  fronts = sums.fronts ∙ ap (λ (books : ArenaState). fronts_of books.chunks) same;
  used = sums.used ∙ ap used_of same;
  live = sums.live_words ∙ live_is a its space;
  free_blocks = sums.free_blocks ∙ ap kept_of same;
  waste = sums.waste;
}
  where
    same : (arena_in space a).books ≡ arena_of space (view_of a).state
    same = sym (books_of a space)
