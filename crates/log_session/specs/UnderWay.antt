-- How far a conversion has come, with the bytes that its output holds.
use Rattle.std.specs.Prelude.{◌≡◌, ℕ, Bool, true, List, [], ◌∷◌, ◌++◌, Option, None}
use Rattle.std.specs.Option.{is_some}
use Rattle.ms_trace.specs.declared.trace.Command.{Command}
use Rattle.jvm_log.specs.declared.event.Said.{Said}
use Rattle.jvm_log.specs.Following.{Follows, HandsOut}
use Rattle.jvm_log.specs.Held.{IsAwaiting}
use Rattle.jvm_log.specs.Known.{Known, known_in, waits}
use Rattle.jvm_log.specs.declared.held.Held.{Held}
use Rattle.log_session.specs.Release.{IsOfJdk17}
use Rattle.log_session.specs.Trace.{AreGiven, OpensFree, WritesLines, asks_reports, commands_of}
use Rattle.log_session.specs.declared.conversion.Conversion.{Conversion}
use Rattle.log_session.specs.declared.options.Options.{Options}

-- Since the output was `start`, lines said what they say; it has grown by the lines of commands, but for the text that
-- is kept. After them come the lines that are kept to be joined: the machine gave these, and then knew what it knows.
pub record HasCome {E : Type 0} (start : Option (List ℕ)) (said : List Said) (known : Known) (state : Conversion E × Option (List ℕ)) : Type 0 where
  pub commands : List Command
  pub lines : WritesLines start state.1 state.0.text.text.items commands
  pub alone : state.0.options.merge ≡ None → state.0.kept.items ≡ []
  pub apart : is_some state.0.options.merge ≡ true → commands ≡ []
  pub follows : Follows (asks_reports state.0.options.reports) said (commands ++ commands_of state.0.kept.items) known
  pub opens : OpensFree (commands ++ commands_of state.0.kept.items ++ waits known) known.loaders.used

-- It is what the machine knows.
abbrev pub IsUnderWay : {E : Type 0} → Option (List ℕ) → List Said → Conversion E × Option (List ℕ) → Type 0
IsUnderWay start said state = HasCome start said (known_in state.0.machine) state

-- What has come so far comes further, with the same options; so many lines more are heard.
pub record GoesOn {E : Type 0} (more : List Said) (old new : Conversion E × Option (List ℕ)) : Type 0 where
  pub options : new.0.options ≡ old.0.options
  pub comes : (start : Option (List ℕ)) (said : List Said) → IsUnderWay start said old → IsUnderWay start (said ++ more) new

-- The same by a command that the machine gave.
pub record HandsOn {E : Type 0} (command : Command) (old new : Conversion E × Option (List ℕ)) : Type 0 where
  pub options : new.0.options ≡ old.0.options
  pub machine : new.0.machine ≡ old.0.machine
  pub comes : (start : Option (List ℕ)) (said : List Said) (known : Known) → HandsOut (command ∷ []) known (known_in old.0.machine)
      → HasCome start said known old → IsUnderWay start said new

-- The lines that the machine holds back.
abbrev pub held_in : {E : Type 0} → Conversion E → Held
held_in conversion = (known_in conversion.machine).held

-- With these options nothing was heard, on whatever output.
pub record Begins {E : Type 0} (options : Options) (conversion : Conversion E) : Type 0 where
  pub options_are : conversion.options ≡ options
  pub awaits : IsAwaiting (held_in conversion)
  pub comes : (start : Option (List ℕ)) → IsUnderWay start [] (conversion, start)

-- More is heard only until the log is over, and once all that may go has gone.
abbrev pub GoesOnHearing : {E : Type 0} → List Said → Conversion E × Option (List ℕ) → Conversion E × Option (List ℕ) → Type 0
GoesOnHearing more old new = IsAwaiting (held_in old.0) → IsAwaiting (held_in new.0) × GoesOn more old new

-- A line is heard: it shows no other release, and the trace goes on.
abbrev pub Hears : {E : Type 0} → Conversion E × Option (List ℕ) → Said → Conversion E × Option (List ℕ) → Type 0
Hears old said new = IsOfJdk17 said × GoesOnHearing (said ∷ []) old new

-- All that these lines give has come, and then some more, but for the text that is kept.
pub record HasEnded (options : Options) (said : List Said) (last : List Command) (start bytes : Option (List ℕ)) (text : List ℕ) : Type 0 where
  pub commands : List Command
  pub lines : WritesLines start bytes text commands
  pub are : AreGiven options said commands last
  pub used : List Bool
  pub opens : OpensFree commands used
