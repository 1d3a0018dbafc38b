-- What the program does for a command line (this project's choice).
use Rattle.std.specs.Prelude.{ℕ, List, Option}
use Rattle.ms_trace.specs.declared.fault.FaultKind.{FaultKind}
use Rattle.ms_trace.specs.Faults.{HasFault}
use Rattle.clap.specs.Words.{Text}
use Rattle.ms_session.specs.Asked.{AreAsked}
use Rattle.ms_session.specs.Session.{IsAnswered, IsBrokenOff}
use Rattle.ms_session.specs.declared.asked.Options.{Options}

-- A session with the options that were asked for wrote its output for the text that was there to be
-- read.
pub record IsObeyed (words : List Text) (input left old new : Option (List ℕ)) : Type 0 where
  pub options : Options
  pub asked : AreAsked words options
  pub answered : IsAnswered options input left old new

-- Such a session was broken off by a device.
pub record IsStopped (words : List Text) (input left old new : Option (List ℕ)) : Type 0 where
  pub options : Options
  pub asked : AreAsked words options
  pub broken_off : IsBrokenOff options input left old new

-- The text has a fault of the grammar under the limit of lines that was asked for.
pub record IsFaulty (words : List Text) (text : List ℕ) : Type 0 where
  pub options : Options
  pub asked : AreAsked words options
  pub line : ℕ
  pub kind : FaultKind
  pub fault : HasFault options.max_lines text line kind
