-- What was read is the beginning of the input, and all of it where it reads as a trace. Used by
-- `answer_to`.
use Rattle.std.proofs.Common.{◌≡◌, ◌+◌, ◌*◌, ◌≤◌, ◌<◌, ℕ, List, ◌++◌, Option, Some, None, length, sym, subst, ap, ◌∙◌}
use Rattle.std.proofs.Common.{arith, inl, inr}
use Rattle.std.specs.Prelude.{IfSome}
use Rattle.std.specs.Io.KnownBytes.{Consumes, IsAtEnd}
use Rattle.std.proofs.lemmas.Bool.{cases_lt}
use Rattle.std.proofs.lemmas.List.{append-nil}
use Rattle.ms_trace.specs.declared.fault.ParseFault.{ParseFault}
use Rattle.ms_trace.specs.declared.fault.ParseFault.TheVariants.{Trace, OutOfMemory}
use Rattle.ms_trace.specs.Faults.{BlamesText, HasFault}
use Rattle.ms_trace.specs.declared.trace.Trace.{Trace as Parsed}
use Rattle.ms_trace.specs.Spelling.{ReadsAs}
use Rattle.ms_session.specs.Failure.{Blames, failure_of_parsing}
use Rattle.ms_session.specs.Session.{IsWhole}
use Rattle.ms_session.proofs.FaultLemmas.{fault_stays}
use Rattle.ms_session.proofs.LengthLemmas.{reads_short}

-- What reading keeps: the text is a beginning of the input, all of it where it is short.
pub record IsRead (limit : ℕ) (old new : Option (List ℕ)) (text : List ℕ) : Type 0 where
  pub beginning : Consumes old new text
  pub most : length text ≤ (81 * limit + 1)
  pub whole : length text < (81 * limit + 1) → IsAtEnd new

-- All of the input was read.
pub reads_whole : (limit : ℕ) (old new : Option (List ℕ)) (text : List ℕ) → IsRead limit old new text → length text < (81 * limit + 1)
    → IfSome old (λ bytes. bytes ≡ text)
reads_whole limit None new text read short = tt
reads_whole limit (Some xs) None text read short = absurd read.beginning
reads_whole limit (Some xs) (Some ys) text read short =
    read.beginning ∙ ap (λ (rest : List ℕ). text ++ rest) (read.whole short) ∙ append-nil text

-- A fault of what was read is a fault of the whole input.
pub blames_whole : (limit : ℕ) (old new : Option (List ℕ)) (text : List ℕ) (fault : ParseFault) → IsRead limit old new text
    → BlamesText limit text fault
    → IfSome old (λ bytes. Blames limit bytes (failure_of_parsing fault))
blames_whole limit None new text fault read blames = tt
blames_whole limit (Some xs) new text OutOfMemory read blames = tt
blames_whole limit (Some xs) None text (Trace fault) read blames = absurd read.beginning
blames_whole limit (Some xs) (Some ys) text (Trace fault) read blames = elim (cases_lt (length text) (81 * limit + 1)) [
  | inl short ↦ subst (λ (bytes : List ℕ). HasFault limit bytes fault.line fault.kind)
      (sym (reads_whole limit (Some xs) (Some ys) text read short)) blames
  | inr long ↦ subst (λ (bytes : List ℕ). HasFault limit bytes fault.line fault.kind) (sym read.beginning)
      (fault_stays limit text ys fault.line fault.kind (omega (arith, read.most, long)) blames)
]

-- What reads as a trace is all of the input.
pub is_whole : (limit : ℕ) (old new : Option (List ℕ)) (text : List ℕ) (trace : Parsed) → IsRead limit old new text → ReadsAs limit text trace
    → IsWhole old new text
is_whole limit old new text trace read reads =
    let short : length text < (81 * limit + 1) = omega (arith, reads_short limit text trace reads) in
    record { all = reads_whole limit old new text read short; ended = read.whole short }
