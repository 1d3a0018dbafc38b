-- Whose a word is: the loader in whose chunk it lies (this project's choice).
use Rattle.std.specs.Prelude.{ℕ, ◌==◌, ◌&&◌, ◌||◌, Bool}
use Rattle.std.specs.List.{list_any}
use Rattle.ms_base.specs.State.{LoaderState, Machine}
use Rattle.ms_pool.specs.Owners.{is_in_chunk}
use Rattle.ms_loader.specs.Loader.{LoaderView}

-- The word lies in a chunk of the loader, in either space.
abbrev pub holds_word : ℕ → LoaderState → Bool
holds_word word loader =
    list_any (is_in_chunk word) loader.arena.chunks || list_any (is_in_chunk word) loader.class_arena.chunks

-- The loader has the name, and holds the word.
abbrev pub is_holder : ℕ → ℕ → ℕ × LoaderState → Bool
is_holder name word loader = (loader.0 == name) && holds_word word loader.1

-- A loader of that name holds the word.
abbrev pub holds : Machine → ℕ → ℕ → Bool
holds m name word = list_any (is_holder name word) m.loaders

-- The number is that of one of the loader's accounts.
abbrev pub is_owner : ℕ → LoaderView → Bool
is_owner owner loader = (loader.owner == owner) || (loader.class_owner == owner)

-- The loader has the name, and an account of that number.
abbrev pub has_owner : ℕ → ℕ → ℕ × LoaderView → Bool
has_owner name owner loader = (loader.0 == name) && is_owner owner loader.1
