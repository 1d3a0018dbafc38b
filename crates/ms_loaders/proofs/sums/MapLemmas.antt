-- The maps of a pool are those of the machine: what loaders hold is what the pool has lent, in
-- another order. `System::maps` uses this.
use Rattle.std.proofs.Common.{◌≡◌, ℕ, List}
use Rattle.ms_base.specs.declared.kind.Space.{Space}
use Rattle.ms_base.specs.State.{chunks_held, pool_of}
use Rattle.ms_base.proofs.free.AlikeLemmas.{permuted_are_alike}
use Rattle.ms_pool.specs.Ledger.{Ledger, held_in, state_in}
use Rattle.ms_pool.specs.Mapping.{maps_of}
use Rattle.ms_pool.proofs.maps.AlikeMapLemmas.{maps_alike}
use Rattle.ms_loader.specs.Loader.{LoaderView}
use Rattle.ms_loaders.specs.System.{AreTogether, machine_of, states_of}
use Rattle.ms_loaders.proofs.sums.FitLemmas.{fits}

pub maps_tell : (ledger : Ledger) (loaders : List (ℕ × LoaderView)) → AreTogether ledger loaders → (space : Space)
    → maps_of (state_in space ledger) ≡ maps_of (pool_of space (machine_of ledger loaders))
maps_tell ledger loaders its space =
    maps_alike (state_in space ledger) (chunks_held space (states_of loaders))
    (permuted_are_alike (held_in space ledger) (chunks_held space (states_of loaders))
    (fits ledger loaders its.loaders_sound its.served space))
