-- What is seen of a line by an observer (this project's choice).
use Rattle.std.specs.Prelude.{List, ◌++◌}
use Rattle.ms_base.specs.declared.step.Reply.{Reply}
use Rattle.ms_base.specs.State.{Machine}
use Rattle.ms_trace.specs.declared.trace.Line.{Line}

-- A sight: a line, its reply, and the machine after it.
pub record Sight : Type 0 where
  pub line : Line
  pub reply : Reply
  pub state : Machine

abbrev pub sight_of : Line → Reply → Machine → Sight
sight_of line reply state = record { line = line; reply = reply; state = state }

-- An observer sees these, after those that it saw since it was first as it was.
abbrev pub SeesAll : {O : Type 0} → (O → O → List Sight → Type 0) → List Sight → O → O → Type 0
SeesAll saw sights old new = (first : _) (before : List Sight) → saw first old before → saw first new (before ++ sights)
