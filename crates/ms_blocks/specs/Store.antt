-- Where free blocks are: a few in a row, more in trees (this project's choice).
use Rattle.std.specs.Prelude.{ℕ, ◌+◌, ◌≤◌, List, length, vec_len, vec_capacity}
use Rattle.ms_base.specs.declared.span.Block.{Block}
use Rattle.ms_blocks.specs.declared.store.Store.{Store}
use Rattle.ms_blocks.specs.declared.store.Store.TheVariants.{Few, Many}
use Rattle.ms_blocks.specs.Classes.{AreByClass, all_of}

-- The blocks of a store, by rank.
abbrev pub blocks_in : {A : Type 0} → Store A → List Block
blocks_in (Few row) = row.items
blocks_in (Many trees some spare) = all_of trees.items

-- Trees have the blocks of their classes, and where the spare forks stand there are slots for the
-- trees' too.
abbrev pub IsStore : {A : Type 0} → Store A → Type 0
IsStore (Few row) = Unit {0}
IsStore (Many trees some spare) =
    AreByClass some trees.items × (vec_len spare + length (all_of trees.items) ≤ vec_capacity spare)

-- There is room for so many more: slots in the row, or spare forks.
abbrev pub HasRoom : {A : Type 0} → Store A → ℕ → Type 0
HasRoom (Few row) room = vec_len row + room ≤ vec_capacity row
HasRoom (Many trees some spare) room = room ≤ vec_len spare
