-- Blocks by name in two parts: those of names in a row in a list, and those of others (our choice).
use Rattle.std.specs.Prelude.{◌≡◌, ℕ, ◌+◌, ◌-◌, ◌≤◌, ◌<◌, ◌^◌, cond, List, [], ◌∷◌, ◌++◌, length, Option, Some}
use Rattle.std.specs.Prelude.{nat_eq, nat_lt, slice_index_or}
use Rattle.std.specs.Map.{lookup}
use Rattle.ms_base.specs.declared.span.Block.{Block}

-- From which name on the list has the blocks of names in a row, of no words where a name has none
-- there; and the blocks of other names, in any order.
pub record TableView : Type 0 where
  pub first : ℕ
  pub row : List Block
  pub others : List (ℕ × Block)

-- No block: one of no words.
abbrev pub no_block : Block
no_block = record { start = 0; words = 0 }

-- The block at a slot of a list, and of a name in a list from a first name on.
abbrev pub at_slot : List Block → ℕ → Block
at_slot row slot = slice_index_or row slot no_block

abbrev pub in_row : ℕ → List Block → ℕ → Block
in_row first row name = cond (nat_lt name first) no_block (at_slot row (name - first))

-- The block, or what stands elsewhere where it has no words.
abbrev pub unless_none : Block → Option Block → Option Block
unless_none block elsewhere = cond (nat_eq block.words 0) elsewhere (Some block)

-- Which block has a name.
abbrev pub block_in : ℕ → List Block → List (ℕ × Block) → ℕ → Option Block
block_in first row others name = unless_none (in_row first row name) (lookup (nat_eq name) others)

abbrev pub block_of : TableView → ℕ → Option Block
block_of table name = block_in table.first table.row table.others name

-- A name has a slot in a list from a first name on.
abbrev pub HasSlot : ℕ → List Block → ℕ → Type 0
HasSlot first row name = (first ≤ name) × (name < first + length row)

-- All names have the blocks that they had.
abbrev pub StayNamed : TableView → TableView → Type 0
StayNamed old new = (name : ℕ) → block_of new name ≡ block_of old name

-- A name has this block, or none, and all others have what they had.
abbrev pub NamesAnew : TableView → ℕ → Option Block → TableView → Type 0
NamesAnew old name block new =
    (other : ℕ) → block_of new other ≡ cond (nat_eq name other) block (block_of old other)

-- The blocks of a list with their names, which count up.
abbrev pub listed : ℕ → List Block → List (ℕ × Block)
listed from [] = []
listed from (block ∷ more) = cond (nat_eq block.words 0) (listed (from + 1) more) ((from, block) ∷ listed (from + 1) more)

-- All blocks with their names.
abbrev pub entries_of : TableView → List (ℕ × Block)
entries_of table = listed table.first table.row ++ table.others

-- What is kept true: names in the list are numbers of 32 bits.
abbrev pub IsTable : ℕ → List Block → Type 0
IsTable first row = first + length row ≤ 2 ^ 32
