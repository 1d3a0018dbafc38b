-- How commands are spelled, which trace a text reads as, and the text that a trace is printed as.
use Rattle.std.specs.Prelude.{◌≡◌, ℕ, ◌+◌, ◌-◌, ◌^◌, ◌≤◌, ◌<◌, ◌⊎◌, Bool, true, ◌&&◌, nat_lt, nat_le, List, [], ◌∷◌}
use Rattle.std.specs.Prelude.{◌++◌, length, replicate, codes, IsTrue, ⊤}
use Rattle.std.specs.List.{join_with_byte}
use Rattle.std.specs.Fmt.{decimal}
use Rattle.ms_base.specs.declared.step.Step.{Step}
use Rattle.ms_base.specs.declared.step.Step.TheVariants.{New, Alloc, Calloc, Write, Read, Free, Unload, Purge}
use Rattle.ms_trace.specs.declared.trace.Command.{Command}
use Rattle.ms_trace.specs.declared.trace.Command.TheVariants.{Step as Asks, Sync, Report}
use Rattle.ms_trace.specs.declared.trace.Line.{Line}
use Rattle.ms_trace.specs.declared.trace.Trace.{Trace}
use Rattle.ms_trace.specs.Grammar.{kind_word, lines_of, is_silent, most_bytes}

-- The fields of a step, its word first, numbers in decimal without leading zeros.
abbrev pub step_fields : Step → List (List ℕ)
step_fields (New loader kind) = codes "new" ∷ decimal loader ∷ kind_word kind ∷ []
step_fields (Alloc loader block words) = codes "alloc" ∷ decimal loader ∷ decimal block ∷ decimal words ∷ []
step_fields (Calloc loader block words) = codes "calloc" ∷ decimal loader ∷ decimal block ∷ decimal words ∷ []
step_fields (Write loader block index value) =
    codes "write" ∷ decimal loader ∷ decimal block ∷ decimal index ∷ decimal value ∷ []
step_fields (Read loader block index) = codes "read" ∷ decimal loader ∷ decimal block ∷ decimal index ∷ []
step_fields (Free loader block) = codes "free" ∷ decimal loader ∷ decimal block ∷ []
step_fields (Unload loader) = codes "unload" ∷ decimal loader ∷ []
step_fields Purge = codes "purge" ∷ []

-- The fields of a command, which are those of its step, or one word.
abbrev pub command_fields : Command → List (List ℕ)
command_fields (Asks step) = step_fields step
command_fields Sync = codes "sync" ∷ []
command_fields Report = codes "report" ∷ []

-- How a command is spelled: its fields with single spaces between them.
abbrev pub spelling_of : Command → List ℕ
spelling_of command = join_with_byte 32 (command_fields command)

-- The numbers of a step are within their bounds.
abbrev pub IsValidStep : Step → Type 0
IsValidStep (New loader kind) = loader < 2 ^ 16
IsValidStep (Alloc loader block words) = (loader < 2 ^ 16) × (block < 2 ^ 32) × (words < 2 ^ 64)
IsValidStep (Calloc loader block words) = (loader < 2 ^ 16) × (block < 2 ^ 32) × (words < 2 ^ 64)
IsValidStep (Write loader block index value) =
    (loader < 2 ^ 16) × (block < 2 ^ 32) × (index < 2 ^ 64) × (value < 2 ^ 64)
IsValidStep (Read loader block index) = (loader < 2 ^ 16) × (block < 2 ^ 32) × (index < 2 ^ 64)
IsValidStep (Free loader block) = (loader < 2 ^ 16) × (block < 2 ^ 32)
IsValidStep (Unload loader) = loader < 2 ^ 16
IsValidStep Purge = ⊤

-- So are those of a command, which are its step's.
abbrev pub IsValid : Command → Type 0
IsValid (Asks step) = IsValidStep step
IsValid Sync = ⊤
IsValid Report = ⊤

-- A line gives a valid command, and the trace goes on with it under the line's number.
pub record Gives (number : ℕ) (line : List ℕ) (trace rest : List Line) : Type 0 where
  pub command : Command
  pub valid : IsValid command
  pub spelled : line ≡ spelling_of command
  pub trace_is : trace ≡ record { number = number; command = command } ∷ rest

-- Lines from a number on read as a trace: none is too long, and each is blank, a comment, or the
-- spelling of a valid command.
abbrev pub ReadsFrom : (most : ℕ) → ℕ → List (List ℕ) → List Line → Type 0
ReadsFrom most number [] trace = trace ≡ []
ReadsFrom most number (line ∷ lines) trace =
    (rest : List Line) × (number ≤ most) × (length line ≤ most_bytes)
    × ((IsTrue (is_silent line) × (trace ≡ rest)) ⊎ Gives number line trace rest) × ReadsFrom most (number + 1) lines rest

-- The text reads as the trace: its command lines with their numbers, which count from 1.
abbrev pub ReadsAs : (most : ℕ) → List ℕ → Trace → Type 0
ReadsAs most text trace = ReadsFrom most 1 (lines_of text) trace.lines

-- Line numbers rise from above a number up to the greatest that a line may have.
abbrev pub rises_above : (most : ℕ) → ℕ → List Line → Bool
rises_above most number [] = true
rises_above most number (line ∷ lines) =
    nat_lt number line.number && nat_le line.number most && rises_above most line.number lines

-- The lines of a trace, from a number on, as a text: empty lines in the gaps, each command on the
-- line of its number.
abbrev pub text_from : ℕ → List Line → List ℕ
text_from number [] = []
text_from number (line ∷ lines) =
    replicate (line.number - number) 10 ++ spelling_of line.command ++ 10 ∷ text_from (line.number + 1) lines

-- What a trace is printed as, which is no bytes where it has no commands.
abbrev pub text_of : Trace → List ℕ
text_of trace = text_from 1 trace.lines
