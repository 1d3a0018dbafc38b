-- A seat of the pool's lock and the loaders that it serves, in one worker's hands.
use Rattle.std.specs.Prelude.{◌≡◌, ℕ, ◌⊎◌, List, [], length, IsTrue}
use Rattle.std.specs.List.{All}
use Rattle.std.specs.Map.{values_of}
use Rattle.ms_base.specs.declared.kind.Space.{Space}
use Rattle.ms_base.specs.declared.span.Chunk.{Chunk}
use Rattle.ms_base.specs.Committed.{is_among}
use Rattle.ms_base.specs.Names.{AreNamed}
use Rattle.ms_loader.specs.Loader.{LoaderView, IsSoundView}
use Rattle.ms_loaders.specs.System.{accounts_of, owners_of, AreDistinct}
use Rattle.ms_shared.specs.declared.lock_rule.SeatView.{SeatView}
use Rattle.ms_shared.specs.SeatView.{ServesBy, opened_by}
use Rattle.ms_shared.specs.Entries.{Has}

-- The seat serves the loaders' accounts, whose owners differ, and no other owner that holds a
-- chunk; in each space it counts as many open accounts as there are loaders. The loaders are sound,
-- and their names rise.
pub record IsManned (seat : SeatView) (loaders : List (ℕ × LoaderView)) : Type 0 where
  pub served : All (ServesBy seat) (accounts_of loaders)
  pub distinct : AreDistinct (owners_of loaders)
  pub no_other : (owner : ℕ) (chunks : List Chunk) → Has seat.served owner chunks
      → (chunks ≡ []) ⊎ IsTrue (is_among (owners_of loaders) owner)
  pub opened : (space : Space) → opened_by seat space ≡ length loaders
  pub sound : All IsSoundView (values_of loaders)
  pub names : AreNamed loaders

-- A change of loaders that any seat serves after it as before: whatever seat served them serves
-- them.
abbrev pub KeepsSeats : List (ℕ × LoaderView) → List (ℕ × LoaderView) → Type 0
KeepsSeats old new = (seat : SeatView) → IsManned seat old → IsManned seat new
