-- A live block by where it lies.
use Rattle.std.specs.Prelude.{◌≡◌, ℕ, ◌==◌, ◌&&◌, Bool, Some}
use Rattle.ms_base.specs.declared.span.Block.{Block}
use Rattle.ms_base.specs.Live.{LiveBlock}
use Rattle.ms_base.specs.Live.{run_of}
use Rattle.ms_base.specs.Names.{named}
use Rattle.ms_base.specs.State.{LoaderState}

-- The entry has the name, and its block lies there.
abbrev pub names_block : ℕ → Block → ℕ × Block → Bool
names_block name block entry =
    (entry.0 == name) && ((entry.1.start == block.start) && (entry.1.words == block.words))

-- The loader's block of that name lies there.
pub record HasRun (loader : LoaderState) (name : ℕ) (block : Block) : Type 0 where
  pub found : LiveBlock
  pub has : named loader.blocks name ≡ Some found
  pub lies : run_of found ≡ (block.start, block.words)
