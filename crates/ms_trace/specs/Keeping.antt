-- What reading a command line answers, what it does to the lines kept so far, and what it blames.
use Rattle.std.specs.Prelude.{◌≡◌, ℕ, ◌==◌, Bool, false, ◌⊎◌, List, [], ◌∷◌, ◌++◌, ◌<◌, ◌≤◌, length, Some, None, Result, IfOk, IsTrue, ⊤}
use Rattle.std.specs.Result.{result_err}
use Rattle.ms_trace.specs.declared.fault.FaultKind.{FaultKind}
use Rattle.ms_trace.specs.declared.fault.ParseFault.{ParseFault}
use Rattle.ms_trace.specs.declared.fault.ParseFault.TheVariants.{Trace, OutOfMemory}
use Rattle.ms_trace.specs.declared.trace.Command.{Command}
use Rattle.ms_trace.specs.declared.trace.Line.{Line}
use Rattle.ms_trace.specs.Grammar.{is_silent, lines_of, most_bytes}
use Rattle.ms_trace.specs.Faults.{command_fault, fault_of}
use Rattle.ms_trace.specs.Spelling.{Gives, IsValid, command_fields, spelling_of}

-- The command that has these fields, with numbers within their bounds, or the fault of the fields.
pub record IsReadFrom (fields : List (List ℕ)) (result : Result Command FaultKind) : Type 0 where
  pub fault : result_err result ≡ command_fault fields
  pub spelled : IfOk result (λ command. command_fields command ≡ fields)
  pub valid : IfOk result IsValid

-- A text ends with a newline.
abbrev pub is_ended : List ℕ → Bool
is_ended [] = false
is_ended (byte ∷ []) = byte == 10
is_ended (byte ∷ next ∷ rest) = is_ended (next ∷ rest)

-- A text begins with the line of a valid command.
pub record BeginsWith (text : List ℕ) (command : Command) (rest : List ℕ) : Type 0 where
  pub spelled : text ≡ spelling_of command ++ 10 ∷ rest
  pub valid : IsValid command

-- A text begins with a silent line that isn't too long.
pub record BeginsSilently (text rest : List ℕ) : Type 0 where
  pub line : List ℕ
  pub cut : lines_of text ≡ line ∷ lines_of rest
  pub silent : IsTrue (is_silent line)
  pub short : length line ≤ most_bytes
  pub shorter : length rest < length text

-- A line without a fault is kept: what it says, nothing or one command, follows the lines so far.
pub record Keeps (most : ℕ) (number : ℕ) (line : List ℕ) (old new : List Line) : Type 0 where
  pub said : List Line
  pub faultless : fault_of most number line ≡ None
  pub says : (IsTrue (is_silent line) × (said ≡ [])) ⊎ Gives number line said []
  pub new_is : new ≡ old ++ said

-- A command is added under the number of its line.
abbrev pub AddsLine : ℕ → Command → List Line → List Line → Type 0
AddsLine number command old new = new ≡ old ++ record { number = number; command = command } ∷ []

-- The first line of a text is kept, and what stands after it is left.
pub record KeepsFirst (most : ℕ) (number : ℕ) (text rest : List ℕ) (old new : List Line) : Type 0 where
  pub line : List ℕ
  pub cut : lines_of text ≡ line ∷ lines_of rest
  pub keeps : Keeps most number line old new
  pub shorter : length rest < length text

-- What is blamed is the line's fault, or want of memory.
abbrev pub BlamesLine : (most : ℕ) → ℕ → List ℕ → ParseFault → Type 0
BlamesLine most number line (Trace fault) = (fault.line ≡ number) × (fault_of most number line ≡ Some fault.kind)
BlamesLine most number line OutOfMemory = ⊤

-- What is blamed is the fault of the first line of a text, or want of memory.
pub record BlamesFirst (most : ℕ) (number : ℕ) (text : List ℕ) (fault : ParseFault) : Type 0 where
  pub line : List ℕ
  pub after : List (List ℕ)
  pub cut : lines_of text ≡ line ∷ after
  pub blames : BlamesLine most number line fault
