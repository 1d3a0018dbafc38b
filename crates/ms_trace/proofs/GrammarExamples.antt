-- Worked examples: faults of lines, how texts are cut, and one text that reads as a trace.
use Rattle.std.proofs.Common.{◌≡◌, [], ◌∷◌, refl, Some, None, inl, inr, arith, codes}
use Rattle.std.specs.Prelude.{replicate, ◌++◌}
use Rattle.ms_trace.specs.declared.fault.FaultKind.TheVariants.{TooManyLines, LineTooLong, UnknownCommand, FieldCount}
use Rattle.ms_trace.specs.declared.fault.FaultKind.TheVariants.{BadKind, BadNumber, NumberTooLarge}
use Rattle.ms_base.specs.declared.step.Step.TheVariants.{Purge}
use Rattle.ms_trace.specs.declared.trace.Command.TheVariants.{Step as Asks, Sync}
use Rattle.ms_trace.specs.Grammar.{lines_of, fields_of, most_lines}
use Rattle.ms_trace.specs.Faults.{fault_of}
use Rattle.ms_trace.specs.Spelling.{ReadsAs, text_of}

leading_zero : fault_of most_lines 1 (codes "alloc 1 01 10") ≡ Some BadNumber
leading_zero = refl

plus_sign : fault_of most_lines 1 (codes "alloc 1 +1 10") ≡ Some BadNumber
plus_sign = refl

loader_too_large : fault_of most_lines 1 (codes "alloc 65536 1 10") ≡ Some NumberTooLarge
loader_too_large = refl

block_too_large : fault_of most_lines 1 (codes "alloc 65535 4294967296 10") ≡ Some NumberTooLarge
block_too_large = refl

two_spaces : fault_of most_lines 1 (codes "alloc  1 1 10") ≡ Some FieldCount
two_spaces = refl

two_spaces_for_a_field : fault_of most_lines 1 (codes "alloc 1  10") ≡ Some BadNumber
two_spaces_for_a_field = refl

leading_space : fault_of most_lines 1 (codes " purge") ≡ Some UnknownCommand
leading_space = refl

carriage_return : fault_of most_lines 1 (codes "purge" ++ 13 ∷ []) ≡ Some UnknownCommand
carriage_return = refl

unknown_kind : fault_of most_lines 1 (codes "new 1 app") ≡ Some BadKind
unknown_kind = refl

first_field_first : fault_of most_lines 1 (codes "new x app") ≡ Some BadNumber
first_field_first = refl

first_field_too_large : fault_of most_lines 1 (codes "new 65536 app") ≡ Some NumberTooLarge
first_field_too_large = refl

kind_is_missing : fault_of most_lines 1 (codes "new 1") ≡ Some FieldCount
kind_is_missing = refl

empty_kind : fault_of most_lines 1 (codes "new 1 ") ≡ Some BadKind
empty_kind = refl

trailing_space : fault_of most_lines 1 (codes "purge ") ≡ Some FieldCount
trailing_space = refl

class_space_word : fault_of most_lines 1 (codes "calloc 1 1 1") ≡ None
class_space_word = refl

class_space_count : fault_of most_lines 1 (codes "calloc 1 1") ≡ Some FieldCount
class_space_count = refl

-- A comment of 80 bytes is accepted, one of 81 is too long; line 100001 is one too many, whatever
-- it holds.
long_comment : fault_of most_lines 1 (replicate 80 35) ≡ None
long_comment = refl

too_long : fault_of most_lines 1 (replicate 81 35) ≡ Some LineTooLong
too_long = refl

last_line_allowed : fault_of most_lines 100000 (codes "purge") ≡ None
last_line_allowed = refl

one_line_too_many : fault_of most_lines 100001 (replicate 81 35) ≡ Some TooManyLines
one_line_too_many = refl

a_new_loader : fault_of most_lines 1 (codes "new 1 standard") ≡ None
a_new_loader = refl

greatest_numbers : fault_of most_lines 1 (codes "write 65535 4294967295 18446744073709551615 18446744073709551615") ≡ None
greatest_numbers = refl

one_more : fault_of most_lines 1 (codes "write 1 1 0 18446744073709551616") ≡ Some NumberTooLarge
one_more = refl

-- A last line needs no newline, and an empty rest is no line.
last_line : lines_of (codes "a\nb") ≡ codes "a" ∷ codes "b" ∷ []
last_line = refl

no_last_line : lines_of (codes "a\n\n") ≡ codes "a" ∷ [] ∷ []
no_last_line = refl

no_lines : lines_of [] ≡ []
no_lines = refl

empty_fields : fields_of (codes " a  b ") ≡ [] ∷ codes "a" ∷ [] ∷ codes "b" ∷ [] ∷ []
empty_fields = refl

-- A comment, a blank line and `purge` read as one command on line 3.
one_command : ReadsAs most_lines (codes "# c\n\npurge") (record { lines = record { number = 3; command = Asks Purge } ∷ [] })
one_command = (
  record { number = 3; command = Asks Purge } ∷ [],
  omega arith,
  omega arith,
  inl (refl, refl),
  (
    record { number = 3; command = Asks Purge } ∷ [],
    omega arith,
    omega arith,
    inl (refl, refl),
    (
      [],
      omega arith,
      omega arith,
      inr (record { command = Asks Purge; valid = tt; spelled = refl; trace_is = refl }),
      refl,
    ),
  ),
)

printed : text_of (record { lines = record { number = 2; command = Asks Purge } ∷ record { number = 5; command = Sync } ∷ [] }) ≡ codes "\npurge\n\n\nsync\n"
printed = refl

nothing_printed : text_of (record { lines = [] }) ≡ []
nothing_printed = refl
