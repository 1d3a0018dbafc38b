-- Loaders handed on from seat to seat, and the shares that come of it.
use Rattle.std.specs.Prelude.{◌≡◌, ◌≢◌, ℕ, suc, ◌+◌, ◌<◌, ◌≤◌, ◌==◌, ◌⊎◌, true, false, List, [], ◌∷◌, length, map}
use Rattle.std.specs.Prelude.{replicate, Some, None, Vec, vec_len, vec_capacity, slice_get, slice_index_or, ◌++◌}
use Rattle.std.specs.List.{All, count_by, filter}
use Rattle.std.specs.declared.alloc.Global.{Global}
use Rattle.ms_base.specs.Committed.{is_among}
use Rattle.ms_base.specs.Names.{named}
use Rattle.ms_base.specs.Request.{loader_of}
use Rattle.ms_trace.specs.declared.trace.Line.{Line}
use Rattle.ms_loader.specs.Loader.{LoaderView}
use Rattle.ms_loaders.specs.System.{owners_of}
use Rattle.ms_shared.specs.declared.lock_rule.SeatView.{SeatView}
use Rattle.ms_shared.specs.SeatView.{SeatState, LockState}
use Rattle.ms_shared.specs.MeterRule.{MeterSeatState, MeterState}
use Rattle.ms_run.specs.Manned.{IsManned}
use Rattle.ms_run.specs.Metering.{meter_of, unmoved}
use Rattle.ms_run.specs.Shares.{Position, IsReady, tasks_at, tasks_by, tasks_in}
use Rattle.ms_run.specs.declared.share.Task.{Task}
use Rattle.ms_run.specs.declared.share.Share.{Share}

-- The loaders of a seat, by their names.
abbrev pub Loaded : Type 0
Loaded = List (ℕ × LoaderView)

-- Two seats serve their loaders each, and no owner is of both.
pub record AreBeside (from : SeatView) (loaders : Loaded) (to : SeatView) (others : Loaded) : Type 0 where
  pub manned : IsManned from loaders
  pub to_manned : IsManned to others
  pub apart : (number : ℕ) → count_by (λ other. other == number) (owners_of loaders)
      + count_by (λ other. other == number) (owners_of others) ≤ 1

-- Two seats of one lock, each with the loaders that it serves.
pub record AreCrews (shared : LockState) (from : SeatState) (loaders : Loaded) (to : SeatState)
    (others : Loaded) : Type 0 where
  pub own : from.id ≡ shared.id
  pub to_own : to.id ≡ shared.id
  pub beside : AreBeside from.knows loaders to.knows others

-- A seat has its number and its events still.
pub record IsSameSeat (old new : SeatState) : Type 0 where
  pub number : new.number ≡ old.number
  pub events : new.events ≡ old.events

-- Seats numbered from one on, with no event.
abbrev pub AreSpare : ℕ → List SeatState → Type 0
AreSpare number [] = Unit {0}
AreSpare number (seat ∷ seats) = (seat.number ≡ number) × (seat.events ≡ []) × AreSpare (suc number) seats

-- Each of so many shares has a seat of the meter, to which nothing was added, and no other has one.
pub record HaveMeters (meter : MeterState) (count : ℕ) (shares : List Share) : Type 0 where
  pub seats : meter.seats ≡ count
  pub unmoved_all : map meter_of shares ≡ replicate count (unmoved meter)

-- The loader of a name went over, where there was one.
pub record IsHanded (name : ℕ) (loaders others after others_after : Loaded) : Type 0 where
  pub gone : named after name ≡ None
  pub there : ((named loaders name ≢ None) × (named others_after name ≡ named loaders name))
      ⊎ ((named loaders name ≡ None) × (named others_after name ≡ named others name))
  pub stay : (other : ℕ) → name ≢ other
      → (named after other ≡ named loaders other) × (named others_after other ≡ named others other)

-- All loaders of some names went over, to where none was.
pub record AreHanded (names : List ℕ) (loaders after others : Loaded) : Type 0 where
  pub here : (name : ℕ) → is_among names name ≡ true
      → (named others name ≡ named loaders name) × (named after name ≡ None)
  pub apart : (name : ℕ) → is_among names name ≡ false
      → (named others name ≡ None) × (named after name ≡ named loaders name)

-- All loaders of a position did.
pub record AreHandedAt (position : Position) (at : ℕ) (loaders after others : Loaded) : Type 0 where
  pub here : (name : ℕ) → position (Some name) ≡ at → (named others name ≡ named loaders name) × (named after name ≡ None)
  pub apart : (name : ℕ) → position (Some name) ≢ at → (named others name ≡ None) × (named after name ≡ named loaders name)

-- The first seat serves all loaders, and the others nothing. They are numbered, and none has an
-- event.
pub record AreSeats (shared : LockState) (seats : List SeatState) (loaders : Loaded) : Type 0 where
  pub first : SeatState
  pub others : List SeatState
  pub are : seats ≡ first ∷ others
  pub own : first.id ≡ shared.id
  pub spare : AreSpare 0 (first ∷ others)
  pub manned : IsManned first.knows loaders
  pub free : All (λ (seat : SeatState). (seat.id ≡ shared.id) × IsManned seat.knows []) others

-- The share of a position: it has the tasks and the loaders of it.
pub record IsShareAt (position : Position) (shared : LockState) (lines : List Line) (loaders : Loaded) (at : ℕ)
    (share : Share) : Type 0 where
  pub ready : IsReady shared share
  pub number : share.seat.number ≡ at
  pub apart : (name : ℕ) → position (Some name) ≢ at → named share.loaders name ≡ None
  pub here : (name : ℕ) → position (Some name) ≡ at → named share.loaders name ≡ named loaders name
  pub tasks : tasks_in lines share ≡ tasks_at position at lines

-- Shares of the positions from one on.
abbrev pub AreSharesFrom : Position → LockState → List Line → Loaded → ℕ → List Share → Type 0
AreSharesFrom position shared lines loaders at [] = Unit {0}
AreSharesFrom position shared lines loaders at (share ∷ shares) =
    IsShareAt position shared lines loaders at share × AreSharesFrom position shared lines loaders (suc at) shares

-- A share newly made for a worker: it has the lines at these indices and this seat of the meter, room
-- for all replies, and none yet.
pub record IsNewShare (worker : ℕ) (indices : List ℕ) (meter : MeterSeatState) (share : Share) : Type 0 where
  pub worker_is : share.worker ≡ worker
  pub indices_are : share.indices.items ≡ indices
  pub meter_is : share.meter ≡ meter
  pub room : vec_len share.indices ≤ vec_capacity share.replies
  pub none : share.replies.items ≡ []

-- There are so many shares; where all positions are of them, each has what is its own.
pub record AreDealtTo (position : Position) (shared : LockState) (count : ℕ) (lines : List Line) (loaders : Loaded)
    (shares : List Share) : Type 0 where
  pub count_is : length shares ≡ count
  pub each : ((name : ℕ) → position (Some name) < count) → AreSharesFrom position shared lines loaders 0 shares

-- Shares of the positions from a number on are the workers' that stand there.
abbrev pub AreWorkersFrom : List ℕ → ℕ → List Share → Type 0
AreWorkersFrom active at [] = Unit {0}
AreWorkersFrom active at (share ∷ shares) =
    (share.worker ≡ slice_index_or active at 0) × AreWorkersFrom active (suc at) shares

-- Lists of indices by share.
abbrev pub IndexLists : Type 0
IndexLists = List (Vec ℕ Global)

-- Each share's list has the tasks of the lines that go to it; an index is one in all lines.
abbrev pub AreListed : List Line → Position → List Line → IndexLists → Type 0
AreListed all position lines lists =
    (at : ℕ) (list : Vec ℕ Global) → slice_get lists at ≡ Some list
    → tasks_by all list.items ≡ tasks_at position at lines

abbrev pub AreEmpty : IndexLists → Type 0
AreEmpty lists = (at : ℕ) (list : Vec ℕ Global) → slice_get lists at ≡ Some list → list.items ≡ []

-- Each share's list has those of some more tasks that go to it.
abbrev pub AreAdded : List Line → List Task → Position → IndexLists → IndexLists → Type 0
AreAdded all tasks position lists new =
    (at : ℕ) (list : Vec ℕ Global) → slice_get new at ≡ Some list
    → (was : Vec ℕ Global) × (slice_get lists at ≡ Some was)
    × (tasks_by all list.items
    ≡ tasks_by all was.items ++ filter (λ (task : Task). position (loader_of task.step) == at) tasks)
