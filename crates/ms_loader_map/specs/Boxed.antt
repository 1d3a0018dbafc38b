-- A loader in a box with its name, as the list of loaders sees it.
use Rattle.std.specs.Prelude.{ℕ}
use Rattle.std.specs.Borrow.{Lends, MutBor, Fml}
use Rattle.ms_loader.specs.Loader.{LoaderView}
use Rattle.ms_loader.specs.contracts.loader.Loader.{the_row as loader_row}
use Rattle.ms_loader_map.specs.contracts.loaders.boxed.Boxed.{the_row}

-- The box ends with its name and the last value behind the loader that was lent.
abbrev pub LendsBoxed : MutBor (ℕ × LoaderView) → MutBor LoaderView → Fml
LendsBoxed boxed lent = Lends the_row loader_row boxed lent (λ loader. (boxed.now.0, loader))
