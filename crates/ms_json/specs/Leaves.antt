-- What the members of a flat object hold.
use Rattle.std.specs.Prelude.{ℕ, List, [], ◌∷◌, Bool, true, ◌&&◌, map}
use denote.Ref.{Bor}
use Rattle.serde_json.specs.Data.{Data, null, string}
use Rattle.ms_answers.specs.Details.{arena_in}
use Rattle.ms_report.specs.Map.{letters}
use Rattle.ms_json.specs.Rows.{Row, is_plain, list_of, natural}
use Rattle.ms_json.specs.Sums.{arena_data}
use Rattle.ms_json.specs.Series.{series_data}
use Rattle.ms_json.specs.declared.leaf.Leaf.{Leaf}
use Rattle.ms_json.specs.declared.leaf.Leaf.TheVariants.{Nothing, Number, Word, Levels, Cells, Arena, Series}

-- A leaf, as it is written.
abbrev pub leaf_data : Leaf → Data
leaf_data Nothing = null
leaf_data (Number n) = natural n
leaf_data (Word word) = string word.now
leaf_data (Levels numbers) = list_of (map natural numbers.now)
leaf_data (Cells cells) = string (letters cells.now)
leaf_data (Arena totals) = arena_data (arena_in totals.now)
leaf_data (Series series columns) = series_data series columns.now

-- Words are plain.
abbrev pub is_leaf : Leaf → Bool
is_leaf (Word word) = is_plain word.now
is_leaf leaf = true

-- Leaves under labels as code keeps them: the rows that they stand for, and that each is plain.
abbrev pub leaf_row : Bor (List ℕ) × Leaf → Row
leaf_row row = (row.0.now, leaf_data row.1)

abbrev pub leaf_rows : List (Bor (List ℕ) × Leaf) → List Row
leaf_rows rows = map leaf_row rows

abbrev pub are_leaves : List (Bor (List ℕ) × Leaf) → Bool
are_leaves [] = true
are_leaves (row ∷ rows) = (is_plain row.0.now && is_leaf row.1) && are_leaves rows
