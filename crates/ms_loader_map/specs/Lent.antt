-- What a page of loaders, and all pages, end with once a loader was lent.
use Rattle.std.specs.Prelude.{ℕ, ◌/◌, ◌%◌, List, Option, Some, None, slice_set}
use Rattle.std.specs.Borrow.{LendsIf, MutBor, Fml}
use Rattle.ms_loader.specs.Loader.{LoaderView}
use Rattle.ms_loader_map.specs.Slots.{in_page, page_of}
use Rattle.ms_loader.specs.contracts.loader.Loader.{the_row as loader_row}
use Rattle.ms_loader_map.specs.contracts.loaders.page.Page.{the_row}
use Rattle.ms_loader_map.specs.contracts.loaders.slots.Slots.{the_row as slots_row}

-- An entry with another loader.
abbrev pub with_loader : Option (ℕ × LoaderView) → LoaderView → Option (ℕ × LoaderView)
with_loader None loader = None
with_loader (Some entry) loader = Some (entry.0, loader)

-- A page with another loader at a slot where one stands.
abbrev pub page_with : List (Option (ℕ × LoaderView)) → ℕ → LoaderView → List (Option (ℕ × LoaderView))
page_with page slot loader = slice_set page slot (with_loader (in_page page slot) loader)

-- Pages with another loader at a number where one stands.
abbrev pub pages_with : List (List (Option (ℕ × LoaderView))) → ℕ → LoaderView → List (List (Option (ℕ × LoaderView)))
pages_with pages number loader = slice_set pages (number / 256) (page_with (page_of pages number) (number % 256) loader)

-- The page ends with the last value behind the loader that was lent, where there was one.
abbrev pub LendsSlot : MutBor (List (Option (ℕ × LoaderView))) → ℕ → Option (MutBor LoaderView) → Fml
LendsSlot page slot lent = LendsIf the_row loader_row page lent (page_with page.now slot) page.now

-- The slots end with the last value behind the loader that was lent, where there was one.
abbrev pub LendsAt : MutBor (List (List (Option (ℕ × LoaderView)))) → ℕ → Option (MutBor LoaderView) → Fml
LendsAt slots number lent = LendsIf slots_row loader_row slots lent (pages_with slots.now number) slots.now
