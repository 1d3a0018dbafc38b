-- What a file of names has lines for (this project's choice).
use Rattle.std.specs.Prelude.{◌≡◌, ℕ, List, [], ◌∷◌, ◌++◌, Option, Some, None}
use Rattle.ms_base.specs.declared.step.Step.TheVariants.{New}
use Rattle.ms_trace.specs.declared.trace.Command.{Command}
use Rattle.ms_trace.specs.declared.trace.Command.TheVariants.{Step as Asks}
use Rattle.ms_trace.specs.declared.trace.Line.{Line}
use Rattle.ms_json.specs.declared.naming.Named.{Named}

-- The loader that a command asks to be made, where it is `new`.
abbrev pub made_by : Command → Option ℕ
made_by (Asks (New loader kind)) = Some loader
made_by command = None

-- The `new` lines of a trace in their order, each by its number and its loader.
abbrev pub if_made : ℕ → Option ℕ → List (ℕ × ℕ)
if_made number None = []
if_made number (Some loader) = (number, loader) ∷ []

abbrev pub made_in : List Line → List (ℕ × ℕ)
made_in [] = []
made_in (line ∷ lines) = if_made line.number (made_by line.command) ++ made_in lines

-- The line and the loader that a line of the file is for.
abbrev pub line_of : Named → ℕ × ℕ
line_of named = (named.line, named.loader)

-- A text has grown by a part of these names, which is nothing where there are none.
pub record AddsNames (named : List Named) (old new : List ℕ) : Type 0 where
  pub part : List ℕ
  pub none : named ≡ [] → part ≡ []
  pub added : new ≡ old ++ part
