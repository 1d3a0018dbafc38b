-- When a program shows its help or its version, and when it refuses its command line.
use Rattle.std.specs.Prelude.{◌≡◌, ◌≢◌, ◌⊎◌, List, true, ⊤}
use Rattle.clap.specs.Words.{App, Text, IsAmong, fault_of, takes}
use Rattle.clap.specs.declared.error.kind.ErrorKind.{ErrorKind}
use Rattle.clap.specs.declared.error.kind.ErrorKind.TheVariants.{DisplayHelp, DisplayVersion}
use Rattle.command_line.specs.declared.matching.Refused.{Refused}
use Rattle.command_line.specs.declared.matching.Refused.TheVariants.{Told, Usage}

-- What a program has for standard output in place of its work.
abbrev pub IsTold : Refused → Type 0
IsTold (Told text) = ⊤
IsTold _ = ⊥

-- What an error of these kinds says is for standard output: the help, or the version.
abbrev pub IsShown : ErrorKind → Type 0
IsShown kind = (kind ≡ DisplayHelp) ⊎ (kind ≡ DisplayVersion)

-- The words ask a program with this command line for its help or its version, before any fault.
pub record AskForIt (app : App) (words : List Text) : Type 0 where
  pub kind : ErrorKind
  pub shown : IsShown kind
  pub first : IsAmong kind (fault_of app words)

-- So they ask a program with a command line of which this is known.
pub record AskToBeTold (IsLine : App → Type 0) (words : List Text) : Type 0 where
  pub app : App
  pub line : IsLine app
  pub ask : AskForIt app words

-- What a program has for standard error in place of its work, memory aside.
abbrev pub IsUsage : Refused → Type 0
IsUsage (Usage text) = ⊤
IsUsage _ = ⊥

-- A command line of which this is known doesn't take the words.
pub record AreNotTaken (IsLine : App → Type 0) (words : List Text) : Type 0 where
  pub app : App
  pub line : IsLine app
  pub refused : takes app words ≢ true
