-- The cells of the map, and the nodes without a chunk (this project's choice).
use Rattle.std.specs.Prelude.{ℕ, ◌/◌, ◌==◌, ◌&&◌, ◌||◌, not, Bool, true, false, List}
use Rattle.std.specs.List.{count_by, list_all, list_any, range_with_len, sum_by}
use Rattle.ms_base.specs.Spaces.{first_class_slot}
use Rattle.ms_pool.specs.declared.mapping.Cell.{Cell}
use Rattle.ms_pool.specs.declared.mapping.Cell.TheVariants.{Free, FreeCommitted}
use Rattle.ms_pool.specs.declared.mapping.Cell.TheVariants.{LentUncommitted, LentPartly, LentWholly}
use Rattle.ms_pool.specs.declared.mapping.RootMap.{RootMap}
use Rattle.ms_page.specs.declared.cells.CellCounts.{CellCounts}
use Rattle.ms_page.specs.Sums.{capped}

-- Two cells are of the same state.
abbrev pub same_cell : Cell → Cell → Bool
same_cell Free Free = true
same_cell FreeCommitted FreeCommitted = true
same_cell LentUncommitted LentUncommitted = true
same_cell LentPartly LentPartly = true
same_cell LentWholly LentWholly = true
same_cell _ _ = false

-- How many cells of a state a root has, and how many all roots.
abbrev pub cells_in : Cell → RootMap → ℕ
cells_in cell root = count_by (same_cell cell) root.cells

abbrev pub cells_of : Cell → List RootMap → ℕ
cells_of cell roots = capped (sum_by (cells_in cell) roots)

-- Those of each state.
abbrev pub cell_counts : List RootMap → CellCounts
cell_counts roots = record {
  free = cells_of Free roots;
  free_committed = cells_of FreeCommitted roots;
  lent_uncommitted = cells_of LentUncommitted roots;
  lent_partly = cells_of LentPartly roots;
  lent_wholly = cells_of LentWholly roots;
}

-- No word of a cell is lent, and none of a root's.
abbrev pub is_free : Cell → Bool
is_free Free = true
is_free FreeCommitted = true
is_free cell = false

abbrev pub is_bare : List Cell → Bool
is_bare cells = list_all is_free cells

-- A root is one of the two of a slot's node.
abbrev pub is_of_node : ℕ → RootMap → Bool
is_of_node slot root = root.root / 2 == slot

-- A root is of another node, or holds no chunk.
abbrev pub spares_node : ℕ → RootMap → Bool
spares_node slot root = not (is_of_node slot root) || is_bare root.cells

-- A slot's node is there and holds no chunk.
abbrev pub is_empty_node : List RootMap → ℕ → Bool
is_empty_node roots slot = list_any (is_of_node slot) roots && list_all (spares_node slot) roots

-- How many such nodes there are outside the class space.
abbrev pub empty_nodes : List RootMap → ℕ
empty_nodes roots = count_by (is_empty_node roots) (range_with_len 0 first_class_slot)
