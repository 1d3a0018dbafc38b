-- Who works what: loaders go to the workers by turns (this project's choice).
use Rattle.std.specs.Prelude.{◌≡◌, ℕ, not, ◌+◌, ◌%◌, ◌==◌, List, [], ◌∷◌, Option, Some, None, slice_get}
use Rattle.std.specs.List.{filter}
use Rattle.ms_base.specs.declared.step.Step.{Step}
use Rattle.ms_base.specs.Request.{loader_of}
use Rattle.ms_trace.specs.declared.trace.Line.{Line}
use Rattle.ms_trace.specs.Steps.{step_of}

-- The loader that a line names; a purge, a sync and a report name none.
abbrev pub loader_if : Option Step → Option ℕ
loader_if None = None
loader_if (Some step) = loader_of step

abbrev pub named_by : Line → Option ℕ
named_by line = loader_if (step_of line.command)

-- A name, and then the others that differ from it.
abbrev pub name_first : Option ℕ → List ℕ → List ℕ
name_first None names = names
name_first (Some name) names = name ∷ filter (λ other. not (other == name)) names

-- The loaders that lines name, each once, in the order of their first lines.
abbrev pub loaders_in : List Line → List ℕ
loaders_in [] = []
loaders_in (line ∷ lines) = name_first (named_by line) (loaders_in lines)

-- Phases, workers, and the loaders of a trace are numbered from 0 on. In a phase of number k a
-- purge is worker 0's, and loader number j is worker (j + k) mod W's.
pub record IsByTurn (lines : List Line) (workers phase : ℕ) (worker : Option ℕ → ℕ) : Type 0 where
  pub purge : worker None ≡ 0
  pub loaders : (number name : ℕ) → slice_get (loaders_in lines) number ≡ Some name
      → worker (Some name) ≡ (number + phase) % workers
