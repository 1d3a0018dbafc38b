-- A worker's share of a phase, before and after its work.
use Rattle.std.specs.Prelude.{◌≡◌, ◌≢◌, ℕ, ◌<◌, ◌≤◌, ◌==◌, List, [], ◌∷◌, length, map, Option, Some, None, vec_len}
use Rattle.std.specs.Prelude.{vec_capacity, slice_get, cond}
use Rattle.std.specs.List.{All, filter, zip}
use Rattle.ms_base.specs.declared.step.Step.{Step}
use Rattle.ms_base.specs.declared.step.Step.TheVariants.{Purge}
use Rattle.ms_base.specs.declared.step.Reply.{Reply}
use Rattle.ms_base.specs.Committed.{is_among}
use Rattle.ms_base.specs.Names.{named}
use Rattle.ms_base.specs.Request.{loader_of}
use Rattle.ms_base.specs.State.{LoaderState}
use Rattle.ms_trace.specs.declared.trace.Line.{Line}
use Rattle.ms_trace.specs.Steps.{step_of}
use Rattle.ms_loader.specs.Loader.{LoaderView}
use Rattle.ms_loaders.specs.System.{states_of}
use Rattle.ms_loader_map.specs.Used.{used_in}
use Rattle.ms_shared.specs.SeatView.{LockState}
use Rattle.ms_shared.specs.MeterRule.{MeterState}
use Rattle.ms_base.specs.Run.Own.{Said, ArePurged}
use Rattle.ms_run.specs.Acts.{HasActed}
use Rattle.ms_run.specs.Manned.{IsManned}
use Rattle.ms_run.specs.Moved.{IsMoved}
use Rattle.ms_run.specs.Turn.{TurnState, shares_in, worker_in}
use Rattle.ms_run.specs.declared.share.Task.{Task}
use Rattle.ms_run.specs.declared.share.Share.{Share}

-- The task of a line: a purge where it asks no step, and of line 0 where there is no line.
abbrev pub task_by : ℕ → Option Step → Task
task_by number None = record { line = number; step = Purge }
task_by number (Some step) = record { line = number; step = step }

abbrev pub task_if : Option Line → Task
task_if None = task_by 0 None
task_if (Some line) = task_by line.number (step_of line.command)

-- The tasks of the lines at some indices, and so those of a share.
abbrev pub task_at : List Line → ℕ → Task
task_at lines index = task_if (slice_get lines index)

abbrev pub tasks_by : List Line → List ℕ → List Task
tasks_by lines indices = map (task_at lines) indices

abbrev pub tasks_in : List Line → Share → List Task
tasks_in lines share = tasks_by lines share.indices.items

-- What was asked and replied in a share.
abbrev pub said_in : List Task → List Reply → List Said
said_in tasks replies = zip (map (λ (task : Task). task.step) tasks) replies

-- A share's seat serves its loaders.
abbrev pub IsMannedShare : Share → Type 0
IsMannedShare share = IsManned share.seat.knows share.loaders

-- A share is ready: its seat is of the lock, has made no event, and serves its loaders; there is
-- room for all replies, and none is there yet.
pub record IsReady (shared : LockState) (share : Share) : Type 0 where
  pub own : share.seat.id ≡ shared.id
  pub fresh : share.seat.events ≡ []
  pub manned : IsMannedShare share
  pub room : vec_len share.indices ≤ vec_capacity share.replies
  pub none : share.replies.items ≡ []

-- The same, and its seat of the meter is of this one.
abbrev pub IsReadyFor : LockState → MeterState → Share → Type 0
IsReadyFor shared meter share = IsReady shared share × (share.meter.id ≡ meter.id)

-- So many shares have all seats of the lock, and each serves its loaders.
pub record StandOver (shared : LockState) (count : ℕ) (shares : List Share) : Type 0 where
  pub own : All (λ (share : Share). share.seat.id ≡ shared.id) shares
  pub manned : All IsMannedShare shares
  pub all : shared.seats ≡ count

-- A share of some lines is worked: each task has its reply, by acts of which each is its own loader's,
-- the seat made the tasks' events and no other, and the meter's seat moved as the words in use did.
pub record IsWorked (lines : List Line) (share done : Share) : Type 0 where
  pub id : done.seat.id ≡ share.seat.id
  pub manned : IsMannedShare done
  pub tasks : tasks_in lines done ≡ tasks_in lines share
  pub replies : vec_len done.replies ≡ length (tasks_in lines share)
  pub purges : ArePurged (said_in (tasks_in lines share) done.replies.items)
  pub acted : HasActed share.seat done.seat share.loaders (said_in (tasks_in lines share) done.replies.items)
      done.loaders
  pub moved : IsMoved share.meter (used_in share.loaders) done.meter (used_in done.loaders)

-- Each share is worked.
abbrev pub AllWorked : List Line → List Share → List Share → Type 0
AllWorked lines [] [] = Unit {0}
AllWorked lines (share ∷ shares) (done ∷ others) = IsWorked lines share done × AllWorked lines shares others
AllWorked lines _ _ = ⊥

-- Where the lines of each loader go in a phase, by the loader's name, and those of a purge: to
-- which share, by its position.
abbrev pub Position : Type 0
Position = Option ℕ → ℕ

-- The tasks that the lines make for one share.
abbrev pub task_of : Line → Option Step → List Task → List Task
task_of line None tasks = tasks
task_of line (Some step) tasks = record { line = line.number; step = step } ∷ tasks

abbrev pub tasks_of : List Line → List Task
tasks_of [] = []
tasks_of (line ∷ lines) = task_of line (step_of line.command) (tasks_of lines)

abbrev pub tasks_at : Position → ℕ → List Line → List Task
tasks_at position at lines = filter (λ (task : Task). position (loader_of task.step) == at) (tasks_of lines)

-- The loaders that tasks name.
abbrev pub name_with : Option ℕ → List ℕ → List ℕ
name_with None names = names
name_with (Some name) names = name ∷ names

abbrev pub names_in : List Task → List ℕ
names_in [] = []
names_in (task ∷ tasks) = name_with (loader_of task.step) (names_in tasks)

-- A loader that is named keeps its position, and any other stands by in the first share.
abbrev pub position_by : Position → List ℕ → Position
position_by position names None = position None
position_by position names (Some name) = cond (is_among names name) (position (Some name)) 0

-- So each loader's position in a phase, by its lines.
abbrev pub position_for : Position → List Line → Position
position_for position lines = position_by position (names_in (tasks_of lines))

-- Some loaders are those of a position.
pub record AreAt (position : Position) (at : ℕ) (all part : List (ℕ × LoaderView)) : Type 0 where
  pub here : (name : ℕ) → position (Some name) ≡ at → named part name ≡ named all name
  pub apart : (name : ℕ) → position (Some name) ≢ at → named part name ≡ None

-- A loader is in no share but the one that its lines go to.
abbrev pub AreApart : Position → List Share → Type 0
AreApart position shares =
    (at : ℕ) (share : Share) (name : ℕ) → slice_get shares at ≡ Some share → position (Some name) ≢ at
    → named share.loaders name ≡ None

-- Each loader is in the share that its lines go to, and is there as it was.
abbrev pub AreHere : Position → List Share → List (ℕ × LoaderView) → Type 0
AreHere position shares loaders =
    (at : ℕ) (share : Share) (name : ℕ) → slice_get shares at ≡ Some share → position (Some name) ≡ at
    → named share.loaders name ≡ named loaders name

-- Each share has the tasks of the lines that go to it.
abbrev pub HaveTasks : Position → List Share → List Line → Type 0
HaveTasks position shares lines =
    (at : ℕ) (share : Share) → slice_get shares at ≡ Some share → tasks_in lines share ≡ tasks_at position at lines

-- Each share has only tasks whose worker works it.
abbrev pub AreWorkedByTurn : (Option ℕ → ℕ) → List Share → List Line → Type 0
AreWorkedByTurn worker shares lines =
    (at : ℕ) (share : Share) → slice_get shares at ≡ Some share
    → All (λ (task : Task). share.worker ≡ worker (loader_of task.step)) (tasks_in lines share)

-- There is a share for each worker whose turn it is, and it has only that worker's tasks.
pub record AreOfTurn (turn : TurnState) (shares : List Share) (lines : List Line) : Type 0 where
  pub count : length shares ≡ shares_in turn
  pub workers : AreWorkedByTurn (worker_in turn) shares lines

-- Each share's seat has the number of its position.
abbrev pub AreNumbered : List Share → Type 0
AreNumbered shares = (at : ℕ) (share : Share) → slice_get shares at ≡ Some share → share.seat.number ≡ at

-- All go to one of so many shares.
abbrev pub AreWithin : Position → ℕ → Type 0
AreWithin position count = (name : Option ℕ) → position name < count

-- A phase's lines and loaders are dealt to shares.
pub record AreDealt (position : Position) (shared : LockState) (shares : List Share) (lines : List Line)
    (loaders : List (ℕ × LoaderView)) : Type 0 where
  pub ready : All (IsReady shared) shares
  pub count : shared.seats ≡ length shares
  pub within : AreWithin position (length shares)
  pub apart : AreApart position shares
  pub here : AreHere position shares loaders
  pub tasks : HaveTasks position shares lines
  pub numbers : AreNumbered shares

-- Each line asks a step.
abbrev pub AreSteps : List Line → Type 0
AreSteps lines = All (λ (line : Line). (step : Step) × (step_of line.command ≡ Some step)) lines

-- Each share has a reply to each of its tasks, which are those of the lines that go to it.
abbrev pub AreAnswered : Position → List Share → List Line → Type 0
AreAnswered position shares lines =
    (at : ℕ) (share : Share) → slice_get shares at ≡ Some share
    → (tasks_in lines share ≡ tasks_at position at lines)
    × (vec_len share.replies ≡ length (tasks_in lines share))

-- What was said in a phase is, for each share, what was said in it.
abbrev pub AreMerged : Position → List Share → List Line → List Said → Type 0
AreMerged position shares lines said =
    (at : ℕ) (share : Share) → slice_get shares at ≡ Some share
    → filter (λ (s : Said). position (loader_of s.0) == at) said
    ≡ said_in (tasks_in lines share) share.replies.items

-- The loaders of all shares are together, each as it is in its share.
abbrev pub IsGathered : Position → List Share → List (ℕ × LoaderState) → Type 0
IsGathered position shares loaders =
    (at : ℕ) (share : Share) (name : ℕ) → slice_get shares at ≡ Some share → position (Some name) ≡ at
    → named loaders name ≡ named (states_of share.loaders) name
