-- Loaders by name, as their callers see them.
use Rattle.std.specs.Prelude.{◌≡◌, ℕ, List, Option, Some, None}
use Rattle.std.specs.Borrow.{LendsIf, MutBor, Fml}
use Rattle.ms_base.specs.declared.refusal.Refusal.{Refusal}
use Rattle.ms_base.specs.declared.refusal.Refusal.TheVariants.{LoaderExists, OutOfMemory}
use Rattle.ms_base.specs.Names.{named, with_changed}
use Rattle.ms_loader.specs.Loader.{LoaderView}
use Rattle.ms_loader.specs.contracts.loader.Loader.{the_row as loader_row}
use Rattle.ms_loader_map.specs.contracts.loaders.Loaders.{the_row}

-- The loaders end with the last value behind the loader that was lent, where there was one.
abbrev pub LendsLoader : MutBor (List (ℕ × LoaderView)) → ℕ → Option (MutBor LoaderView) → Fml
LendsLoader loaders name lent = LendsIf the_row loader_row loaders lent (with_changed loaders.now name) loaders.now

-- Why a loader is not added: the name is used, or memory is wanting.
abbrev pub InsertRefused : List (ℕ × LoaderView) → ℕ → Refusal → Type 0
InsertRefused loaders name LoaderExists = (loader : LoaderView) × (named loaders name ≡ Some loader)
InsertRefused loaders name OutOfMemory = named loaders name ≡ None
InsertRefused loaders name _ = ⊥
