-- Which fault a text has: that of its first faulty line, by the line's first failing check.
use Rattle.std.specs.Prelude.{◌≡◌, ℕ, ◌+◌, Bool, false, not, ◌&&◌, ◌||◌, nat_lt, ◌==◌, List, [], ◌∷◌, ◌++◌, length}
use Rattle.std.specs.Prelude.{Option, Some, None, if◌then◌else◌, bytes_eq, ⊤}
use Rattle.std.specs.List.{list_any}
use Rattle.std.specs.Map.{lookup}
use Rattle.std.specs.Str.{all_ascii_digits}
use Rattle.std.specs.Str.Parse.{digits_value}
use Rattle.ms_base.specs.declared.kind.Kind.TheVariants.{Standard, Boot, Reflection, Hidden}
use Rattle.ms_trace.specs.declared.fault.FaultKind.{FaultKind}
use Rattle.ms_trace.specs.declared.fault.FaultKind.TheVariants.{TooManyLines, LineTooLong, UnknownCommand, FieldCount}
use Rattle.ms_trace.specs.declared.fault.FaultKind.TheVariants.{BadKind, BadNumber, NumberTooLarge}
use Rattle.ms_trace.specs.declared.fault.ParseFault.{ParseFault}
use Rattle.ms_trace.specs.declared.fault.ParseFault.TheVariants.{Trace, OutOfMemory}
use Rattle.ms_trace.specs.Grammar.{Field, kind_field, number_field, kind_word, commands, most_bytes}
use Rattle.ms_trace.specs.Grammar.{lines_of, fields_of, is_silent}

-- A number is the digit 0, or a digit 1 to 9 followed by digits.
abbrev pub is_number : List ℕ → Bool
is_number [] = false
is_number (first ∷ rest) = all_ascii_digits (first ∷ rest) && (not (first == 48) || (length rest == 0))

-- A kind is one of its four words.
abbrev pub is_kind : List ℕ → Bool
is_kind bytes = list_any (λ kind. bytes_eq bytes (kind_word kind)) (Standard ∷ Boot ∷ Reflection ∷ Hidden ∷ [])

-- What is wrong with a field, checked whole: its form before its size.
abbrev pub field_fault : Field → List ℕ → Option FaultKind
field_fault kind_field bytes = if is_kind bytes then None else Some BadKind
field_fault (number_field greatest) bytes =
    if not (is_number bytes) then Some BadNumber
    else if nat_lt greatest (digits_value 10 bytes) then Some NumberTooLarge
    else None

-- The first of two faults, where there is one.
abbrev pub first_of_two : Option FaultKind → Option FaultKind → Option FaultKind
first_of_two (Some kind) later = Some kind
first_of_two None later = later

-- What is wrong with the fields, from left to right.
abbrev pub fields_fault : List Field → List (List ℕ) → Option FaultKind
fields_fault (field ∷ fields) (bytes ∷ rest) = first_of_two (field_fault field bytes) (fields_fault fields rest)
fields_fault _ _ = None

-- What is wrong with what follows a command word: that there is no such word, the number of fields,
-- or one of them.
abbrev pub after_word_fault : Option (List Field) → List (List ℕ) → Option FaultKind
after_word_fault None rest = Some UnknownCommand
after_word_fault (Some fields) rest = if length rest == length fields then fields_fault fields rest else Some FieldCount

-- What is wrong with the fields of a command line.
abbrev pub command_fault : List (List ℕ) → Option FaultKind
command_fault [] = Some UnknownCommand
command_fault (word ∷ rest) = after_word_fault (lookup (bytes_eq word) commands) rest

-- What is wrong with a line of that number: the first check that fails.
abbrev pub fault_of : (most : ℕ) → ℕ → List ℕ → Option FaultKind
fault_of most number line =
    if nat_lt most number then Some TooManyLines
    else if nat_lt most_bytes (length line) then Some LineTooLong
    else if is_silent line then None
    else command_fault (fields_of line)

-- No line has a fault, the first having that number.
abbrev pub AreFaultless : (most : ℕ) → ℕ → List (List ℕ) → Type 0
AreFaultless most number [] = ⊤
AreFaultless most number (line ∷ lines) = (fault_of most number line ≡ None) × AreFaultless most (number + 1) lines

-- The text has a fault: its line of that number is the first with a failing check, and the kind is
-- its first failing check.
pub record HasFault (most : ℕ) (text : List ℕ) (number : ℕ) (kind : FaultKind) : Type 0 where
  pub before : List (List ℕ)
  pub line : List ℕ
  pub after : List (List ℕ)
  pub lines_are : lines_of text ≡ before ++ line ∷ after
  pub faultless : AreFaultless most 1 before
  pub number_is : number ≡ length before + 1
  pub kind_is : fault_of most number line ≡ Some kind

-- What reading answers is a fault of the text, or want of memory.
abbrev pub BlamesText : (most : ℕ) → List ℕ → ParseFault → Type 0
BlamesText most text (Trace fault) = HasFault most text fault.line fault.kind
BlamesText most text OutOfMemory = ⊤
