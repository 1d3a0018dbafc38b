-- Cells add up: each is of one state. `laws` uses this.
use Rattle.std.proofs.Common.{◌≡◌, ◌<◌, ◌+◌, ◌*◌, ◌^◌, ℕ, List, [], ◌∷◌, length, refl, arith}
use Rattle.std.specs.Prelude.{cond}
use Rattle.std.specs.List.{All, count_by, sum_by}
use Rattle.std.proofs.lemmas.List.Elements.{All-head, All-tail}
use Rattle.std.proofs.lemmas.List.Sums.{sum_by-cons}
use Rattle.ms_pool.specs.declared.mapping.Cell.{Cell}
use Rattle.ms_pool.specs.declared.mapping.Cell.TheVariants.{Free, FreeCommitted}
use Rattle.ms_pool.specs.declared.mapping.Cell.TheVariants.{LentUncommitted, LentPartly, LentWholly}
use Rattle.ms_pool.specs.declared.mapping.RootMap.{RootMap}
use Rattle.ms_page.specs.Cells.{cell_counts, cells_in, same_cell}
use Rattle.ms_page.specs.Laws.{cells_together}

one_if : Cell → Cell → ℕ
one_if cell other = cond (same_cell cell other) 1 0

one_state : (cell : Cell)
    → one_if Free cell + one_if FreeCommitted cell + one_if LentUncommitted cell + one_if LentPartly cell
    + one_if LentWholly cell
    ≡ 1
unfolding one_if
one_state Free = refl
one_state FreeCommitted = refl
one_state LentUncommitted = refl
one_state LentPartly = refl
one_state LentWholly = refl

-- The cells of a root.
count_cons : (state cell : Cell) (cells : List Cell)
    → count_by (same_cell state) (cell ∷ cells) ≡ one_if state cell + count_by (same_cell state) cells
unfolding one_if
count_cons state cell cells = sum_by-cons (λ (p : Cell). cond (same_cell state p) 1 0) cell cells

root_cells_add : (cells : List Cell)
    → count_by (same_cell Free) cells + count_by (same_cell FreeCommitted) cells
    + count_by (same_cell LentUncommitted) cells
    + count_by (same_cell LentPartly) cells
    + count_by (same_cell LentWholly) cells
    ≡ length cells
root_cells_add [] = refl
root_cells_add (cell ∷ cells) = omega (
  arith,
  one_state cell,
  count_cons Free cell cells,
  count_cons FreeCommitted cell cells,
  count_cons LentUncommitted cell cells,
  count_cons LentPartly cell cells,
  count_cons LentWholly cell cells,
  root_cells_add cells,
)

-- Those of all roots.
roots_add : (roots : List RootMap) → All (λ (root : RootMap). length root.cells ≡ 64) roots
    → sum_by (cells_in Free) roots + sum_by (cells_in FreeCommitted) roots + sum_by (cells_in LentUncommitted) roots
    + sum_by (cells_in LentPartly) roots
    + sum_by (cells_in LentWholly) roots
    ≡ 64 * length roots
roots_add [] full = refl
roots_add (root ∷ roots) full = omega (
  arith,
  root_cells_add root.cells,
  All-head (λ (r : RootMap). length r.cells ≡ 64) root roots full,
  sum_by-cons (cells_in Free) root roots,
  sum_by-cons (cells_in FreeCommitted) root roots,
  sum_by-cons (cells_in LentUncommitted) root roots,
  sum_by-cons (cells_in LentPartly) root roots,
  sum_by-cons (cells_in LentWholly) root roots,
  roots_add roots (All-tail (λ (r : RootMap). length r.cells ≡ 64) root roots full),
)

pub cells_add : (roots : List RootMap) → All (λ (root : RootMap). length root.cells ≡ 64) roots
    → 64 * length roots < 2 ^ 64 → cells_together (cell_counts roots) ≡ 64 * length roots
cells_add roots full few = omega (arith, roots_add roots full, few)
