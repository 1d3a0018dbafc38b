-- Whose turn it is in a phase.
use Rattle.std.specs.Prelude.{◌≡◌, ℕ, Bool, false, cond, ◌+◌, ◌-◌, ◌%◌, ◌==◌, ◌<◌, ◌≤◌, List, length, min, Option, Some, None}
use Rattle.std.specs.Prelude.{slice_get, slice_index_or, slice_set, ⊤, [], ◌∷◌, ◌++◌}
use Rattle.std.specs.List.{All}
use Rattle.ms_base.specs.declared.step.Step.{Step}
use Rattle.ms_base.specs.Request.{loader_of}
use Rattle.ms_trace.specs.Steps.{step_of}
use Rattle.ms_base.specs.Committed.{is_among}
use Rattle.ms_trace.specs.declared.trace.Line.{Line}
use Rattle.ms_run.specs.Workers.{loaders_in}

-- By loader name its worker in phase 0; the phase's number; how many workers there are; those that
-- have a share, in the order of the shares; and by worker the position of its share.
pub record TurnState : Type 0 where
  pub first : List ℕ
  pub phase : ℕ
  pub workers : ℕ
  pub active : List ℕ
  pub positions : List ℕ

-- How many shares there are.
abbrev pub shares_in : TurnState → ℕ
shares_in turn = length turn.active

-- The worker of a loader's lines, and of a purge, by the workers in phase 0, the phase and how many
-- workers there are.
abbrev pub worker_by : List ℕ → ℕ → ℕ → Option ℕ → ℕ
worker_by first phase workers None = 0
worker_by first phase workers (Some name) = (slice_index_or first name 0 + phase) % workers

-- The same in a state.
abbrev pub worker_in : TurnState → Option ℕ → ℕ
worker_in turn name = worker_by turn.first turn.phase turn.workers name

-- The position of a worker's share.
abbrev pub position_of : TurnState → ℕ → ℕ
position_of turn worker = min (slice_index_or turn.positions worker 0) (shares_in turn - 1)

-- The position of the share that has the lines of a loader, and of a purge.
abbrev pub position_in : TurnState → Option ℕ → ℕ
position_in turn name = position_of turn (worker_in turn name)

-- The share that has a step is one of the worker whose turn it is.
abbrev pub HasOwnShare : TurnState → Option Step → Type 0
HasOwnShare turn None = ⊤
HasOwnShare turn (Some step) =
    slice_index_or turn.active (position_in turn (loader_of step)) 0 ≡ worker_in turn (loader_of step)

-- Each line that asks a step has a share of its own worker.
abbrev pub HaveOwnShares : TurnState → List Line → Type 0
HaveOwnShares turn lines = All (λ (line : Line). HasOwnShare turn (step_of line.command)) lines

-- A worker that has no share yet gets one after the others, and its position is told.
pub record AddsWorker (active positions : List ℕ) (worker : ℕ) (new_active new_positions : List ℕ) : Type 0 where
  pub active_is : new_active ≡ cond (is_among active worker) active (active ++ worker ∷ [])
  pub positions_is : new_positions ≡ cond (is_among active worker) positions (slice_set positions worker (length active))

-- There is a share, and at most eight are.
pub record IsTurn (turn : TurnState) : Type 0 where
  pub some : 1 ≤ shares_in turn
  pub few : shares_in turn ≤ 8
  pub workers : 1 ≤ turn.workers

-- The loaders are still the same workers'.
pub record IsSameTurn (old new : TurnState) : Type 0 where
  pub first : new.first ≡ old.first
  pub phase : new.phase ≡ old.phase
  pub workers : new.workers ≡ old.workers

-- They are the next worker's.
pub record IsNextTurn (old new : TurnState) : Type 0 where
  pub first : new.first ≡ old.first
  pub phase : new.phase ≡ (old.phase + 1) % old.workers
  pub workers : new.workers ≡ old.workers

-- In phase 0 the loaders of lines are their workers' by turns.
abbrev pub AreFirst : List Line → ℕ → List ℕ → Type 0
AreFirst lines workers first =
    (number name : ℕ) → slice_get (loaders_in lines) number ≡ Some name
    → slice_index_or first name 0 ≡ number % workers

-- The loaders of lines have their workers, other names have none, and the worker is told that the
-- next loader comes to.
pub record IsNumbered (lines : List Line) (workers : ℕ) (first : List ℕ) (next : ℕ) : Type 0 where
  pub loaders : AreFirst lines workers first
  pub others : (name : ℕ) → is_among (loaders_in lines) name ≡ false → slice_index_or first name 255 ≡ 255
  pub next_is : next ≡ length (loaders_in lines) % workers

-- A name that has no worker yet comes to one, and it is told whether it came.
pub record AssignsTo (old : List ℕ) (name worker : ℕ) (new : List ℕ) (came : Bool) : Type 0 where
  pub within : name < length old
  pub came_is : came ≡ (slice_index_or old name 0 == 255)
  pub new_is : new ≡ cond came (slice_set old name worker) old

abbrev pub Assigns : List ℕ → Option ℕ → ℕ → List ℕ → Bool → Type 0
Assigns old None worker new came = (came ≡ false) × (new ≡ old)
Assigns old (Some name) worker new came = AssignsTo old name worker new came
