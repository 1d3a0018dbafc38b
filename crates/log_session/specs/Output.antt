-- How the lines of a trace go out, in pieces, and what they read as.
use Rattle.std.specs.Prelude.{◌≡◌, ◌≤◌, ℕ, List, [], ◌∷◌, ◌++◌, Option}
use Rattle.std.specs.Io.KnownBytes.{Appends}
use Rattle.ms_trace.specs.declared.trace.Command.{Command}
use Rattle.ms_trace.specs.Spelling.{ReadsAs, spelling_of}

-- The line of a command: its spelling, and a newline.
abbrev pub line_of : Command → List ℕ
line_of command = spelling_of command ++ 10 ∷ []

-- A text comes after what was kept: some bytes go out, the first of them all, and the rest is kept.
pub record GoesOut (old : Option (List ℕ)) (kept text : List ℕ) (new : Option (List ℕ)) (left : List ℕ) : Type 0 where
  pub out : List ℕ
  pub written : Appends old new out
  pub in_order : out ++ left ≡ kept ++ text

-- A command's line reads as the trace of that command.
abbrev pub ReadsBack : Command → Type 0
ReadsBack command =
    (most : ℕ) → 1 ≤ most → ReadsAs most (line_of command) (record { lines = record { number = 1; command = command } ∷ [] })
