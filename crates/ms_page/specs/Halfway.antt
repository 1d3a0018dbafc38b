-- The loaders half-way, by name (this project's choice).
use Rattle.std.specs.Prelude.{◌≡◌, ℕ, ◌<◌, ◌==◌, Bool, List, Option, None, length, reverse, slice_index_or}
use Rattle.std.specs.List.{find}
use Rattle.std.specs.Option.{option_map}
use Rattle.ms_course.specs.declared.course.LoaderThen.{LoaderThen}

-- The live words that a loader of this name had half-way, of the last one where the name recurs.
abbrev pub is_named : ℕ → LoaderThen → Bool
is_named name loader = loader.name == name

abbrev pub live_then : List LoaderThen → ℕ → Option ℕ
live_then halfway name = option_map (λ (loader : LoaderThen). loader.live) (find (is_named name) (reverse halfway))

-- A table has them by name.
pub record IsTable (table : List (Option ℕ)) (halfway : List LoaderThen) : Type 0 where
  pub count : length table ≡ 65536
  pub each : (name : ℕ) → name < 65536 → slice_index_or table name None ≡ live_then halfway name
