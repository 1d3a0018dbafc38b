-- The layout of a report: its tables, and lines whose columns are filled with spaces (this
-- project's choice). A text is a list of bytes.
use Rattle.std.specs.Prelude.{ℕ, ◌+◌, ◌-◌, List, [], ◌∷◌, ◌++◌, length, replicate, codes}
use Rattle.std.specs.Fmt.{decimal}
use Rattle.ms_base.specs.Level.{size_of}
use Rattle.ms_base.specs.declared.kind.Kind.{Kind}
use Rattle.ms_base.specs.declared.kind.Kind.TheVariants.{Standard, Boot, Reflection, Hidden}
use Rattle.ms_base.specs.Totals.{SpaceSums, LoaderRow}

-- A text with spaces to a width, after it or before it; a longer text stays as it is.
abbrev pub left_in : ℕ → List ℕ → List ℕ
left_in width text = text ++ replicate (width - length text) 32

abbrev pub right_in : ℕ → List ℕ → List ℕ
right_in width text = replicate (width - length text) 32 ++ text

-- A line with a label and a number.
abbrev pub number_line : List ℕ → ℕ → List ℕ
number_line label number = codes "  " ++ left_in 12 label ++ right_in 12 (decimal number) ++ codes "\n"

-- Such a line for each label with its number.
abbrev pub number_lines : List (List ℕ × ℕ) → List ℕ
number_lines [] = []
number_lines (row ∷ rows) = number_line row.0 row.1 ++ number_lines rows

-- A table is the headings of its columns, from left to right, and the width of each.
abbrev pub Table : Type 0
Table = List (List ℕ × ℕ)

-- Texts in the columns of a table, each with spaces before it.
abbrev pub cells : Table → List (List ℕ) → List ℕ
cells columns [] = []
cells [] (text ∷ texts) = []
cells (column ∷ columns) (text ∷ texts) = right_in column.1 text ++ cells columns texts

-- A line of a table: two spaces, then its columns.
abbrev pub table_line : Table → List (List ℕ) → List ℕ
table_line table texts = codes "  " ++ cells table texts ++ codes "\n"

-- The line of a table's headings, each in its column.
abbrev pub headings : Table → List ℕ
headings [] = []
headings (column ∷ columns) = right_in column.1 column.0 ++ headings columns

abbrev pub header : Table → List ℕ
header table = codes "  " ++ headings table ++ codes "\n"

-- The eleven numbers of a space, with their labels.
abbrev pub space_rows : SpaceSums → List (List ℕ × ℕ)
space_rows space =
    (codes "nodes", space.nodes)
    ∷ (codes "reserved", space.reserved)
    ∷ (codes "granules", space.granules)
    ∷ (codes "committed", space.committed)
    ∷ (codes "chunks", space.chunks)
    ∷ (codes "capacity", space.capacity)
    ∷ (codes "fronts", space.fronts)
    ∷ (codes "used", space.used)
    ∷ (codes "live", space.live)
    ∷ (codes "free blocks", space.free_blocks)
    ∷ (codes "waste", space.waste)
    ∷ []

-- The table of levels, and a level's line: its words, chunks held and parts free.
abbrev pub level_table : Table
level_table = (codes "level", 5) ∷ (codes "words", 8) ∷ (codes "held", 8) ∷ (codes "free", 8) ∷ []

abbrev pub level_texts : ℕ → ℕ → ℕ → List (List ℕ)
level_texts level held free = decimal level ∷ decimal (size_of level) ∷ decimal held ∷ decimal free ∷ []

-- A line for each level, counted up from one.
abbrev pub level_lines : ℕ → List ℕ → List ℕ → List ℕ
level_lines level (held ∷ helds) (free ∷ frees) =
    table_line level_table (level_texts level held free) ++ level_lines (level + 1) helds frees
level_lines level _ _ = []

-- The word of a kind.
abbrev pub kind_text : Kind → List ℕ
kind_text Standard = codes "standard"
kind_text Boot = codes "boot"
kind_text Reflection = codes "reflection"
kind_text Hidden = codes "hidden"

-- The table of loaders, and a loader's line.
abbrev pub loader_table : Table
loader_table =
    (codes "name", 5)
    ∷ (codes "kind", 12)
    ∷ (codes "chunks", 8)
    ∷ (codes "capacity", 10)
    ∷ (codes "used", 10)
    ∷ (codes "live", 10)
    ∷ []

abbrev pub loader_texts : LoaderRow → List (List ℕ)
loader_texts row =
    decimal row.name
    ∷ kind_text row.kind
    ∷ decimal row.chunks
    ∷ decimal row.capacity
    ∷ decimal row.used
    ∷ decimal row.live
    ∷ []

-- A line for each loader.
abbrev pub loader_lines : List LoaderRow → List ℕ
loader_lines [] = []
loader_lines (row ∷ rows) = table_line loader_table (loader_texts row) ++ loader_lines rows
