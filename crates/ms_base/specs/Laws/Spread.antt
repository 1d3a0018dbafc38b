-- What spreads of steps over events come to: the law that is the contract of `events` in
-- ms_loaders.
use Rattle.std.specs.Prelude.{◌≡◌, ℕ, false, List, []}
use Rattle.std.specs.List.{All}
use Rattle.ms_base.specs.Names.{named}
use Rattle.ms_base.specs.Request.{is_name}
use Rattle.ms_base.specs.State.{Machine}
use Rattle.ms_base.specs.Good.{IsGood}
use Rattle.ms_base.specs.Run.{Run}
use Rattle.ms_base.specs.Laws.Sum.{HoldsNothing}
use Rattle.ms_base.specs.Run.Event.{Event, loader_of_event}
use Rattle.ms_base.specs.Run.Spread.{Moment, Follow, IsSpread}
use Rattle.ms_base.specs.Run.Serial.{serial, steps_of, replies_of}

-- An event leaves all that is another loader's: its chunks, books and blocks.
abbrev pub LeavesOthers : Machine → Event → Machine → Type 0
LeavesOthers old event new =
    (name : ℕ) → is_name name (loader_of_event event) ≡ false → named new.loaders name ≡ named old.loaders name

-- After a moment the state is good, other loaders are as they were, and with no loader left all
-- memory has been given back.
pub record IsKeptAt (moment : Moment) : Type 0 where
  pub good : IsGood moment.after
  pub others : LeavesOthers moment.before moment.event moment.after
  pub given_back : moment.after.loaders ≡ [] → HoldsNothing moment.after

-- So it is after each moment, and the serial order is a run of the machine with the same replies,
-- from the same first state to the same last.
pub record IsSerial (old : Machine) (moments : List Moment) (new : Machine) : Type 0 where
  pub kept : All IsKeptAt moments
  pub run : Run old (steps_of (serial moments)) (replies_of (serial moments)) new

-- Each spread is serial: however steps are spread over events, their replies and the state are
-- those of whole steps, one after another.
abbrev pub SpreadsAreSerial : Type 0
SpreadsAreSerial =
    (old new : Machine) (moments : List Moment) → IsGood old → Follow old moments new → IsSpread moments
    → IsSerial old moments new
