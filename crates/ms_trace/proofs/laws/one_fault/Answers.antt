use Rattle.std.proofs.Common.{◌∙◌, sym, arith}
use Rattle.ms_trace.proofs.TraceLemmas.{one_fault}
use Rattle.ms_trace.proofs.laws.one_fault.Goals as goal

pub returns : goal.returns
returns c = λ most text number other_number kind other_kind one other.
    one_fault most 1 number other_number one.before other.before one.line other.line one.after other.after kind other_kind
    (sym one.lines_are ∙ other.lines_are)
    one.faultless other.faultless (omega (arith, one.number_is)) (omega (arith, other.number_is)) one.kind_is
    other.kind_is
