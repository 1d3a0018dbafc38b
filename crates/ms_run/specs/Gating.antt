-- What a gate is told of the lines that are worked (this project's choice).
use Rattle.std.specs.Prelude.{ℕ, suc, ⊤, List, [], ◌∷◌, Option, Some, None}
use Rattle.std.specs.List.{All}
use Rattle.ms_base.specs.declared.step.Step.{Step}
use Rattle.ms_base.specs.Request.{loader_of}
use Rattle.ms_trace.specs.declared.trace.Line.{Line}
use Rattle.ms_trace.specs.Steps.{step_of}
use Rattle.ms_run.specs.Workers.{IsByTurn}
use Rattle.ms_run.specs.declared.share.Task.{Task}

-- A call on a gate by a worker, with a line's number: before the line, or after it with the words in
-- use.
pub data GateCall : Type 0 where
  Before : (worker number : ℕ) → GateCall
  After : (worker number used : ℕ) → GateCall

-- A worker called the gate before the line of a number and after it.
pub record IsGated (told : GateCall → Type 0) (worker number : ℕ) : Type 0 where
  pub before : told (Before worker number)
  pub used : ℕ
  pub after : told (After worker number used)

-- Where a line asks a step, the worker of its loader did, or that of a purge.
abbrev pub IsGatedBy : (GateCall → Type 0) → (Option ℕ → ℕ) → Line → Option Step → Type 0
IsGatedBy told worker line None = ⊤
IsGatedBy told worker line (Some step) = IsGated told (worker (loader_of step)) line.number

-- So it is of each line; and of each task of one worker.
abbrev pub AreGated : (GateCall → Type 0) → (Option ℕ → ℕ) → List Line → Type 0
AreGated told worker lines = All (λ (line : Line). IsGatedBy told worker line (step_of line.command)) lines

abbrev pub AreTasksGated : (GateCall → Type 0) → ℕ → List Task → Type 0
AreTasksGated told worker tasks = All (λ (task : Task). IsGated told worker task.line) tasks

-- The number of the phase that a line's step stands in is that of the line after it; a line that
-- asks none ends its phase.
abbrev pub phase_after : ℕ → Option Step → ℕ
phase_after phase (Some step) = phase
phase_after phase None = suc phase

-- Some lines of a trace, from a phase of this number on, are gated phase by phase: each by the
-- worker whose turn it is.
abbrev pub AreGatedFrom : (GateCall → Type 0) → List Line → ℕ → ℕ → List Line → Type 0
AreGatedFrom told trace workers phase [] = ⊤
AreGatedFrom told trace workers phase (line ∷ lines) =
    ((worker : Option ℕ → ℕ) × IsByTurn trace workers phase worker × IsGatedBy told worker line (step_of line.command))
    × AreGatedFrom told trace workers (phase_after phase (step_of line.command)) lines

-- So is a whole trace.
abbrev pub AreGatedByTurn : (GateCall → Type 0) → ℕ → List Line → Type 0
AreGatedByTurn told workers lines = AreGatedFrom told lines workers 0 lines
