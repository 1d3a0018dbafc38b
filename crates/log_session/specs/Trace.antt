-- The trace that a run writes: it reads as its commands, these are what the log gives, and they open no loader that lives.
use Rattle.std.specs.Prelude.{◌≡◌, ◌≤◌, ◌+◌, ℕ, Bool, true, false, List, [], ◌∷◌, ◌++◌, flat_map, map, length, Option, Some, None, IfSome}
use Rattle.std.specs.List.{All, AllByRecursion}
use Rattle.std.specs.Io.KnownBytes.{Appends}
use Rattle.clap.specs.Words.{Text}
use Rattle.ms_trace.specs.declared.trace.Command.{Command}
use Rattle.ms_trace.specs.declared.trace.Command.TheVariants.{Report}
use Rattle.ms_trace.specs.declared.trace.Line.{Line}
use Rattle.ms_trace.specs.Spelling.{IsValid, ReadsAs}
use Rattle.jvm_log.specs.declared.event.Said.{Said}
use Rattle.jvm_log.specs.declared.placed.Placed.{Placed}
use Rattle.jvm_log.specs.Following.{Follows, said_by}
use Rattle.jvm_log.specs.Hearing.{AreLines}
use Rattle.jvm_log.specs.Known.{Known, waits}
use Rattle.jvm_log.specs.NameActs.{TakesFree, name_acts}
use Rattle.log_session.specs.Asked.{AreAsked}
use Rattle.log_session.specs.Joining.{IsJoined, forgotten}
use Rattle.log_session.specs.Output.{line_of}
use Rattle.log_session.specs.declared.options.Options.{Options}
use Rattle.log_session.specs.declared.options.Reports.{Reports}
use Rattle.log_session.specs.declared.options.Reports.TheVariants as reports

-- Commands, one a line from the line of that number on.
abbrev pub numbered : ℕ → List Command → List Line
numbered number [] = []
numbered number (command ∷ commands) = record { number = number; command = command } ∷ numbered (number + 1) commands

-- A text reads as the trace of commands, one a line, wherever so many lines are allowed.
abbrev pub ReadsOneALine : List ℕ → List Command → Type 0
ReadsOneALine text commands =
    (most : ℕ) → length commands ≤ most → ReadsAs most text (record { lines = numbered 1 commands })

-- From names of which none is in use, commands open a loader only under a free one: a name that was never
-- given out, or whose loader was unloaded.
abbrev pub OpensFree : List Command → List Bool → Type 0
OpensFree commands used =
    (free : List Bool) × All (λ is_used. is_used ≡ false) free × TakesFree free (flat_map name_acts commands) used

-- The output has grown by the lines of valid commands, but for what is kept of them.
pub record WritesLines (old new : Option (List ℕ)) (kept : List ℕ) (commands : List Command) : Type 0 where
  pub out : List ℕ
  pub written : Appends old new out
  pub in_order : out ++ kept ≡ flat_map line_of commands
  pub valid : AllByRecursion IsValid commands

-- The commands of lines.
abbrev pub commands_of : List Placed → List Command
commands_of lines = map (λ line. line.command) lines

-- Whether a report is asked for after each collection.
abbrev pub asks_reports : Reports → Bool
asks_reports reports.End = false
asks_reports reports.Gc = true
asks_reports reports.None = false

-- One is asked for at the end, unless none is wanted.
abbrev pub last_report : Reports → List Command
last_report reports.End = Report ∷ []
last_report reports.Gc = Report ∷ []
last_report reports.None = []

-- Blocks are joined up to so many words, where that is asked for.
abbrev pub AreJoined : Option ℕ → List Command → List Command → Type 0
AreJoined None given commands = commands ≡ given
AreJoined (Some most) given commands =
    (lines joined : List Placed) × (given ≡ commands_of lines) × IsJoined most (forgotten lines) joined × (commands ≡ commands_of joined)

-- Commands are those that these lines of a log give, and then some more; none of theirs still waits.
pub record AreGiven (options : Options) (said : List Said) (commands last : List Command) : Type 0 where
  pub given : List Command
  pub known : Known
  pub joined : List Command
  pub follows : Follows (asks_reports options.reports) said given known
  pub all : waits known ≡ []
  pub joins : AreJoined options.merge given joined
  pub ends : commands ≡ joined ++ last

-- The output has grown by the trace of what these lines say.
pub record WritesTrace (options : Options) (said : List Said) (old new : Option (List ℕ)) : Type 0 where
  pub commands : List Command
  pub text : List ℕ
  pub written : Appends old new text
  pub reads : ReadsOneALine text commands
  pub are : AreGiven options said commands (last_report options.reports)
  pub used : List Bool
  pub opens : OpensFree commands used

-- It has grown by the trace of a log, where the log's text is known.
abbrev pub Converts : Options → Option (List ℕ) → Option (List ℕ) → Option (List ℕ) → Type 0
Converts options log old new =
    (lines : List (List ℕ)) × IfSome log (λ text. AreLines text lines) × WritesTrace options (said_by lines) old new

-- The same by the options that the words of a command line ask for.
abbrev pub ConvertsAsked : List Text → Option (List ℕ) → Option (List ℕ) → Option (List ℕ) → Type 0
ConvertsAsked words log old new = (options : Options) × AreAsked words options × Converts options log old new
