-- What each loader is answered in a run of the machine, whatever else is asked there: laws, each
-- the contract of a function of `laws`.
use Rattle.std.specs.Prelude.{◌≡◌, ◌==◌, ℕ, List, Option, map}
use Rattle.std.specs.List.{filter}
use Rattle.ms_base.specs.Request.{loader_of}
use Rattle.ms_base.specs.State.{Machine}
use Rattle.ms_base.specs.Good.{IsGood}
use Rattle.ms_base.specs.Run.{Run}
use Rattle.ms_base.specs.Run.Own.{Said, own_said, own_in, OwnRun}

-- What was said is a run of the machine.
abbrev pub IsRunOf : Machine → List Said → Machine → Type 0
IsRunOf old said new = Run old (map (λ (s : Said). s.0) said) (map (λ (s : Said). s.1) said) new

-- The replies to a loader's requests follow from these requests and from which of them were refused
-- for want; and they leave what the last state has of the loader.
abbrev pub RepliesFollow : Machine → List Said → Machine → Type 0
RepliesFollow old said new = (name : ℕ) → OwnRun (own_in old.loaders name) (own_said name said) (own_in new.loaders name)

-- So it is for each loader in each run from a good state on.
abbrev pub RepliesAreOwn : Type 0
RepliesAreOwn = (old new : Machine) (said : List Said) → IsGood old → IsRunOf old said new → RepliesFollow old said new

-- The requests of each worker stand in the same order in both.
abbrev pub KeepsEach : (Option ℕ → ℕ) → List Said → List Said → Type 0
KeepsEach worker order said = (one : ℕ) → filter (λ (s : Said). worker (loader_of s.0) == one) order
    ≡ filter (λ (s : Said). worker (loader_of s.0) == one) said

-- So it is too where workers said it, each what its loaders were asked, and it is a run in some
-- order that keeps each worker's.
abbrev pub RepliesOfWorkersAreOwn : Type 0
RepliesOfWorkersAreOwn =
    (worker : Option ℕ → ℕ) (old new : Machine) (order said : List Said) → IsGood old → KeepsEach worker order said
    → IsRunOf old order new → RepliesFollow old said new
