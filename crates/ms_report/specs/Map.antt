-- The text of the maps of roots: a line for each root, with a letter for each cell (this project's
-- choice, after HotSpot's VM.metaspace vsmap).
use Rattle.std.specs.Prelude.{ℕ, ◌/◌, List, [], ◌∷◌, ◌++◌, codes}
use Rattle.std.specs.Fmt.{decimal}
use Rattle.ms_pool.specs.declared.mapping.Cell.{Cell}
use Rattle.ms_pool.specs.declared.mapping.Cell.TheVariants.{Free, FreeCommitted}
use Rattle.ms_pool.specs.declared.mapping.Cell.TheVariants.{LentUncommitted, LentPartly, LentWholly}
use Rattle.ms_pool.specs.Mapping.{RootCells}
use Rattle.ms_report.specs.Layout.{right_in}

-- The letter of a cell.
abbrev pub letter : Cell → List ℕ
letter Free = codes "-"
letter FreeCommitted = codes "."
letter LentUncommitted = codes "u"
letter LentPartly = codes "o"
letter LentWholly = codes "O"

-- The letters of the cells, in order of address.
abbrev pub letters : List Cell → List ℕ
letters [] = []
letters (cell ∷ cells) = letter cell ++ letters cells

-- A root's line: its slot, its number, its cells.
abbrev pub map_line : RootCells → List ℕ
map_line root =
    codes "  " ++ right_in 5 (decimal (root.root / 2)) ++ right_in 6 (decimal root.root) ++ codes "  "
    ++ letters root.cells
    ++ codes "\n"

-- Such a line for each root.
abbrev pub map_lines : List RootCells → List ℕ
map_lines [] = []
map_lines (root ∷ roots) = map_line root ++ map_lines roots

-- What a letter stands for, and the lines that say so.
abbrev pub meaning : Cell → List ℕ
meaning Free = codes "free, not committed"
meaning FreeCommitted = codes "free, committed"
meaning LentUncommitted = codes "lent, not committed"
meaning LentPartly = codes "lent in part, committed"
meaning LentWholly = codes "lent as a whole, committed"

abbrev pub key_line : Cell → List ℕ
key_line cell = codes "  " ++ letter cell ++ codes " " ++ meaning cell ++ codes "\n"

abbrev pub key_lines : List Cell → List ℕ
key_lines [] = []
key_lines (cell ∷ cells) = key_line cell ++ key_lines cells

-- The key has a line for each letter.
abbrev pub all_cells : List Cell
all_cells = Free ∷ FreeCommitted ∷ LentUncommitted ∷ LentPartly ∷ LentWholly ∷ []

-- The part Map: the headings, a line for each root, the key.
abbrev pub map_part : List RootCells → List ℕ
map_part roots =
    codes "Map\n" ++ codes "   slot  root  places of 8192 words\n" ++ map_lines roots ++ key_lines all_cells
