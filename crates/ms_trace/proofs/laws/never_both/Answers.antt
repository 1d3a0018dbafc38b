-- Where a text reads as a trace, its faulty line would have no fault.
use Rattle.std.proofs.Common.{◌≡◌, ◌+◌, ◌∷◌, ◌++◌, length, arith}
use Rattle.ms_trace.specs.Grammar.{lines_of}
use Rattle.ms_trace.specs.Faults.{fault_of, AreFaultless}
use Rattle.ms_trace.proofs.TraceLemmas.{faultless_from_reads, no_fault_among, clash}
use Rattle.ms_trace.proofs.laws.never_both.Goals as goal

pub returns : goal.returns
returns c = λ most text trace number kind reads fault.
    let faultless : AreFaultless most 1 (fault.before ++ fault.line ∷ fault.after) =
    rw fault.lines_are at (faultless_from_reads most 1 (lines_of text) trace.lines reads) in
    let line_is : number ≡ 1 + length fault.before = omega (arith, fault.number_is) in
    clash (fault_of most number fault.line) kind (rw line_is (no_fault_among most 1 fault.before fault.line fault.after faultless))
    fault.kind_is
