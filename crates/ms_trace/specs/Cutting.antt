-- What a text is cut into, the first part at a time, and how many fields there are to be.
use Rattle.std.specs.Prelude.{ℕ, ◌==◌, List, [], length, Option, Some, None, if◌then◌else◌}
use Rattle.std.specs.Borrow.{Bor}
use Rattle.std.specs.List.{slice_split}
use Rattle.ms_trace.specs.declared.fault.FaultKind.{FaultKind}
use Rattle.ms_trace.specs.declared.fault.FaultKind.TheVariants.{FieldCount}

-- The parts of a text, which is cut at each separator.
abbrev pub parts_of : ℕ → List ℕ → List (List ℕ)
parts_of separator text = slice_split (λ byte. byte == separator) text

-- The parts of what stands after a separator, of which there are none where no separator came.
abbrev pub parts_after : ℕ → Option (Bor (List ℕ)) → List (List ℕ)
parts_after separator None = []
parts_after separator (Some text) = parts_of separator text.now

-- The fields of what stands after a space.
abbrev pub fields_in : Option (Bor (List ℕ)) → List (List ℕ)
fields_in rest = parts_after 32 rest

-- What is wrong with the number of fields.
abbrev pub count_fault : ℕ → List (List ℕ) → Option FaultKind
count_fault count fields = if length fields == count then None else Some FieldCount
