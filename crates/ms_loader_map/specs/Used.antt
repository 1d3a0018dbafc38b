-- The words in use of loaders by name: the sums of their tops, of both spaces.
use Rattle.std.specs.Prelude.{ℕ, ◌+◌, List, Option, Some, None}
use Rattle.std.specs.List.{sum_by}
use Rattle.std.specs.Map.{values_of}
use Rattle.ms_base.specs.State.{LoaderState}
use Rattle.ms_base.specs.Totals.{used_of}
use Rattle.ms_loader.specs.Loader.{LoaderView}

-- Of one loader.
abbrev pub used_by : LoaderState → ℕ
used_by loader = used_of loader.arena + used_of loader.class_arena

-- Of the loader that was found, and nothing where there is none.
abbrev pub used_at : Option LoaderView → ℕ
used_at None = 0
used_at (Some loader) = used_by loader.state

-- The same of a machine's loader.
abbrev pub used_if : Option LoaderState → ℕ
used_if None = 0
used_if (Some loader) = used_by loader

-- Of all loaders.
abbrev pub used_in : List (ℕ × LoaderView) → ℕ
used_in loaders = sum_by (λ (loader : LoaderView). used_by loader.state) (values_of loaders)
