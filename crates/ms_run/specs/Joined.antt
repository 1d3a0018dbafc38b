-- The loaders of several shares put together, one share's after the other's.
use Rattle.std.specs.Prelude.{◌≡◌, ℕ, ◌⊎◌, ⊤, List, [], ◌∷◌, ◌++◌, map, None}
use Rattle.std.specs.List.Sorted.{IsPermutation}
use Rattle.ms_base.specs.declared.refusal.Refusal.{Refusal}
use Rattle.ms_base.specs.declared.refusal.Refusal.TheVariants.{OutOfMemory, Unsettled}
use Rattle.ms_base.specs.Names.{named}
use Rattle.ms_loader.specs.Loader.{LoaderView}
use Rattle.ms_base.specs.State.{Machine}
use Rattle.ms_pool.specs.Ledger.{Ledger}
use Rattle.ms_shared.specs.SeatView.{SeatState, IsHistory}
use Rattle.ms_loaders.specs.System.{machine_of, AreTogether}
use Rattle.ms_base.specs.Good.{IsGood}
use Rattle.ms_run.specs.Metering.{used_over, used_words_of}
use Rattle.ms_run.specs.Shares.{Position, AreApart, AreHere, IsGathered}
use Rattle.ms_run.specs.declared.share.Share.{Share}

-- No name is in both.
abbrev pub HaveOtherNames : List (ℕ × LoaderView) → List (ℕ × LoaderView) → Type 0
HaveOtherNames whole part = (name : ℕ) → (named whole name ≡ None) ⊎ (named part name ≡ None)

-- A part comes to the loaders: there are those of both, each under its name.
pub record IsJoined (old part new : List (ℕ × LoaderView)) : Type 0 where
  pub same : IsPermutation new (old ++ part)
  pub others : (name : ℕ) → named part name ≡ None → named new name ≡ named old name
  pub own : (name : ℕ) → named old name ≡ None → named new name ≡ named part name

-- The loaders of each share come, in the order of the shares.
abbrev pub AreJoined : List (ℕ × LoaderView) → List Share → List (ℕ × LoaderView) → Type 0
AreJoined old [] new = new ≡ old
AreJoined old (share ∷ shares) new =
    (mid : List (ℕ × LoaderView)) × IsJoined old share.loaders mid × AreJoined mid shares new

abbrev pub seat_of : Share → SeatState
seat_of share = share.seat

-- The state is this pool's and of loaders that belong to it.
pub record IsMachineOf (pool : Ledger) (state : Machine) : Type 0 where
  pub loaders : List (ℕ × LoaderView)
  pub machine : state ≡ machine_of pool loaders
  pub together : AreTogether pool loaders

-- A state whose pool the one history of all shares' events makes of a first one, with their
-- loaders.
pub record IsMadeFrom (first : Ledger) (shares : List Share) (state : Machine) : Type 0 where
  pub last : Ledger
  pub ends : IsMachineOf last state
  pub history : IsHistory first (map seat_of shares) last
  pub here : (position : Position) → AreApart position shares → AreHere position shares ends.loaders

-- The state that worked shares end in, over a lock whose pool was this at first: a good one of the
-- same limits, which the one history of their events makes, and which has the loaders of all of them.
pub record IsEnded (first : Ledger) (shares : List Share) (state : Machine) : Type 0 where
  pub gathered : (position : Position) → AreApart position shares → IsGathered position shares state.loaders
  pub good : IsGood state
  pub limits : state.limits ≡ first.limits
  pub history : IsMadeFrom first shares state
  pub used : used_words_of state ≡ used_over shares

-- Why shares aren't gathered: memory is wanting, or not all was given.
abbrev pub IsWantOrUnsettled : Refusal → Type 0
IsWantOrUnsettled OutOfMemory = ⊤
IsWantOrUnsettled (Unsettled opened gathered) = ⊤
IsWantOrUnsettled _ = ⊥
