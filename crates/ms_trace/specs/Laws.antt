-- What the grammar amounts to, for each greatest number of lines: laws about it, each the contract of a
-- function of `laws`.
use Rattle.std.specs.Prelude.{◌≡◌, ℕ, ◌⊎◌, List, IsTrue}
use Rattle.std.specs.List.{All}
use Rattle.ms_trace.specs.declared.fault.FaultKind.{FaultKind}
use Rattle.ms_trace.specs.declared.trace.Line.{Line}
use Rattle.ms_trace.specs.declared.trace.Trace.{Trace}
use Rattle.ms_trace.specs.Faults.{HasFault}
use Rattle.ms_trace.specs.Spelling.{IsValid, ReadsAs, rises_above, text_of}

-- A text that reads as a trace has no fault.
abbrev pub NeverBoth : Type 0
NeverBoth =
    (most : ℕ) (text : List ℕ) (trace : Trace) (number : ℕ) (kind : FaultKind) → ReadsAs most text trace
    → ¬ HasFault most text number kind

-- Each text reads as a trace or has a fault.
abbrev pub OneOfTheTwo : Type 0
OneOfTheTwo =
    (most : ℕ) (text : List ℕ) → ((trace : Trace) × ReadsAs most text trace)
    ⊎ ((number : ℕ) × (kind : FaultKind) × HasFault most text number kind)

-- A text reads as one trace only.
abbrev pub OneTrace : Type 0
OneTrace =
    (most : ℕ) (text : List ℕ) (one other : Trace) → ReadsAs most text one → ReadsAs most text other → one ≡ other

-- Two faults of a text are the same.
pub record IsSameFault (number other_number : ℕ) (kind other_kind : FaultKind) : Type 0 where
  pub number_is : number ≡ other_number
  pub kind_is : kind ≡ other_kind

-- A text has one fault only.
abbrev pub OneFault : Type 0
OneFault =
    (most : ℕ) (text : List ℕ) (number other_number : ℕ) (kind other_kind : FaultKind) →
    HasFault most text number kind → HasFault most text other_number other_kind
    → IsSameFault number other_number kind other_kind

-- The lines of a trace that a text reads as have rising numbers from 1 to the greatest.
abbrev pub NumbersRise : Type 0
NumbersRise =
    (most : ℕ) (text : List ℕ) (trace : Trace) → ReadsAs most text trace → IsTrue (rises_above most 0 trace.lines)

-- A trace of valid commands whose line numbers rise is read back from what it is printed as.
abbrev pub PrintedReads : Type 0
PrintedReads =
    (most : ℕ) (trace : Trace) → All (λ (line : Line). IsValid line.command) trace.lines
    → IsTrue (rises_above most 0 trace.lines) → ReadsAs most (text_of trace) trace
