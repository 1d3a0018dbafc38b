-- Chunks that are alike make the same maps, whatever their order: a machine has them by loader.
use Rattle.std.proofs.Common.{◌≡◌, ℕ, ◌+◌, ◌*◌, List, [], ◌∷◌, ◌++◌, map, refl, ap, ap₂, ◌∙◌}
use Rattle.std.specs.List.{flat_map, range_with_len}
use Rattle.ms_base.specs.declared.span.Chunk.{Chunk}
use Rattle.ms_base.specs.declared.span.Span.{Span}
use Rattle.ms_base.specs.Laws.Free.{AreAlike, with_held}
use Rattle.ms_base.specs.FreeParts.{free_within}
use Rattle.ms_base.specs.Interval.{meet}
use Rattle.ms_base.specs.Level.{root_words, size_of, highest_level}
use Rattle.ms_base.specs.State.{PoolState}
use Rattle.ms_base.proofs.free.AlikeLemmas.{free_alike}
use Rattle.ms_pool.specs.declared.mapping.Cell.{Cell}
use Rattle.ms_pool.specs.Mapping.{RootCells, is_committed_in, map_of, maps_of, maps_of_slot}
use Rattle.ms_pool.specs.Mapping.{meets_free, meets_lent, cell_by}
use Rattle.ms_pool.specs.Mapping.{cell_in, cell_start, cell_words, root_cells}

-- A cell is the same.
cell_alike : (pool : PoolState) (other : List Chunk) → AreAlike pool.held other → (root number : ℕ)
    → cell_in pool root number ≡ cell_in (with_held pool other) root number
cell_alike pool other alike root number =
    ap (λ b. cell_by b (meets_free (free_within pool.held highest_level (root * root_words)) start cell_words)
    (is_committed_in pool start))
    (alike (λ chunk. meet chunk.start (size_of chunk.level) start cell_words))
    ∙ ap (λ (parts : List Span). cell_by (meets_lent other start cell_words) (meets_free parts start cell_words)
    (is_committed_in pool start))
    (free_alike pool.held other alike highest_level (root * root_words))
  where
    start : ℕ
    start = cell_start root number

-- So is a root, and a slot.
abbrev root_cells_of : ℕ → List Cell → RootCells
root_cells_of root cells = record { root = root; cells = cells }

same_all : (f g : ℕ → Cell) → ((k : ℕ) → f k ≡ g k) → (numbers : List ℕ) → map f numbers ≡ map g numbers
same_all f g same [] = refl
same_all f g same (k ∷ numbers) = ap₂ (λ (x : Cell) (l : List Cell). x ∷ l) (same k) (same_all f g same numbers)

map_alike : (pool : PoolState) (other : List Chunk) → AreAlike pool.held other → (root : ℕ)
    → map_of pool root ≡ map_of (with_held pool other) root
unfolding map_of
map_alike pool other alike root =
    ap (root_cells_of root) (same_all (cell_in pool root) (cell_in (with_held pool other) root)
    (cell_alike pool other alike root) (range_with_len 0 root_cells))

slots_alike : (pool : PoolState) (other : List Chunk) → AreAlike pool.held other → (slots : List ℕ)
    → flat_map (maps_of_slot pool) slots ≡ flat_map (maps_of_slot (with_held pool other)) slots
slots_alike pool other alike [] = refl
slots_alike pool other alike (slot ∷ slots) =
    ap (λ (m : RootCells). m ∷ map_of pool (2 * slot + 1) ∷ flat_map (maps_of_slot pool) slots)
    (map_alike pool other alike (2 * slot))
    ∙ ap (λ (m : RootCells). map_of (with_held pool other) (2 * slot) ∷ m ∷ flat_map (maps_of_slot pool) slots)
    (map_alike pool other alike (2 * slot + 1))
    ∙ ap (λ (l : List RootCells). maps_of_slot (with_held pool other) slot ++ l) (slots_alike pool other alike slots)

pub maps_alike : (pool : PoolState) (other : List Chunk) → AreAlike pool.held other
    → maps_of pool ≡ maps_of (with_held pool other)
unfolding maps_of
maps_alike pool other alike = slots_alike pool other alike pool.slots
