-- The map of a root chunk: what becomes of each of its cells (after HotSpot's VM.metaspace vsmap;
-- the cells are this project's choice).
use Rattle.std.specs.Prelude.{◌≡◌, ◌<◌, ℕ, ◌+◌, ◌*◌, Bool, false, not, ◌&&◌, ◌||◌, if◌then◌else◌, List, [], ◌∷◌, get_or, map}
use Rattle.std.specs.List.{list_any, flat_map, range_with_len}
use Rattle.ms_base.specs.declared.span.Chunk.{Chunk}
use Rattle.ms_base.specs.declared.span.Span.{Span}
use Rattle.ms_base.specs.Interval.{lies_in, meet}
use Rattle.ms_base.specs.Level.{root_words, size_of, highest_level}
use Rattle.ms_base.specs.FreeParts.{free_within}
use Rattle.ms_base.specs.Policy.{granule_of}
use Rattle.ms_base.specs.Committed.{granules_meeting, is_among}
use Rattle.ms_base.specs.State.{PoolState}
use Rattle.ms_buddy.specs.Leaves.{LentLeaf, chunk_of, free_of, words_of}
use Rattle.ms_pool.specs.declared.mapping.Cell.{Cell}
use Rattle.ms_pool.specs.declared.mapping.Cell.TheVariants.{Free, FreeCommitted}
use Rattle.ms_pool.specs.declared.mapping.Cell.TheVariants.{LentUncommitted, LentPartly, LentWholly}
use Rattle.ms_pool.specs.declared.mapping.RootMap.{RootMap}

-- A root has 64 cells of 8192 words.
abbrev pub cell_words : ℕ
cell_words = 8192

abbrev pub root_cells : ℕ
root_cells = 64

-- A chunk has one of so many words from the start on, and a part has one.
abbrev pub meets_lent : List Chunk → ℕ → ℕ → Bool
meets_lent chunks start words = list_any (λ chunk. meet chunk.start (size_of chunk.level) start words) chunks

abbrev pub meets_free : List Span → ℕ → ℕ → Bool
meets_free parts start words = list_any (λ part. meet part.start (size_of part.level) start words) parts

-- What a cell is: whether a chunk that is lent has a word of it, a free part has one, and a
-- committed granule has one.
abbrev pub cell_by : Bool → Bool → Bool → Cell
cell_by lent free committed =
    if lent then (if committed then (if free then LentPartly else LentWholly) else LentUncommitted)
    else (if committed then FreeCommitted else Free)

-- Where a cell of a root starts.
abbrev pub cell_start : ℕ → ℕ → ℕ
cell_start root number = number * cell_words + root * root_words

-- A committed granule has a word of the cell.
abbrev pub is_committed_in : PoolState → ℕ → Bool
is_committed_in pool start =
    list_any (is_among pool.committed) (granules_meeting (granule_of pool.limits.policy) start cell_words)

-- What a cell of a root is, by the chunks that are lent there, the root's free parts and the
-- committed granules.
abbrev pub cell_in : PoolState → ℕ → ℕ → Cell
cell_in pool root number =
    cell_by (meets_lent pool.held (cell_start root number) cell_words)
    (meets_free (free_within pool.held highest_level (root * root_words)) (cell_start root number) cell_words)
    (is_committed_in pool (cell_start root number))

-- A root's number and its cells in order of address.
pub record RootCells : Type 0 where
  pub root : ℕ
  pub cells : List Cell

unfoldable pub map_of : PoolState → ℕ → RootCells
map_of pool root = record { root = root; cells = map (cell_in pool root) (range_with_len 0 root_cells) }

-- The maps of both roots of each slot that is reserved.
abbrev pub maps_of_slot : PoolState → ℕ → List RootCells
maps_of_slot pool slot = map_of pool (2 * slot) ∷ map_of pool (2 * slot + 1) ∷ []

unfoldable pub maps_of : PoolState → List RootCells
maps_of pool = flat_map (maps_of_slot pool) pool.slots

-- What a map tells.
abbrev pub map_in : RootMap → RootCells
map_in told = record { root = told.root; cells = told.cells }

-- The words of a cell of a root that begins at word 0.
abbrev pub words_of_cell : ℕ → ℕ × ℕ
words_of_cell number = (number * cell_words, cell_words)

-- What is told of the cells of a root by the leaves of its tree: whether each meets a lent one,
-- and a free one.
pub record AreFound (leaves : List LentLeaf) (is_lent is_free : List Bool) : Type 0 where
  pub lent : (number : ℕ) → number < root_cells
      → get_or is_lent number false ≡ meets_lent (map chunk_of leaves) (number * cell_words) cell_words
  pub free : (number : ℕ) → number < root_cells
      → get_or is_free number false ≡ meets_free (free_of leaves) (number * cell_words) cell_words

-- What a free leaf changes of it: a cell that lies in the leaf isn't lent, and one that meets it
-- is free.
pub record AreNoted (part : Span) (was_lent was_free is_lent is_free : List Bool) : Type 0 where
  pub lent : (number : ℕ) → number < root_cells
      → get_or is_lent number false ≡ (get_or was_lent number false && not (lies_in (words_of_cell number) (words_of part)))
  pub free : (number : ℕ) → number < root_cells
      → get_or is_free number false
      ≡ (get_or was_free number false || meet part.start (size_of part.level) (number * cell_words) cell_words)
