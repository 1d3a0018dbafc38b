use Rattle.std.proofs.Common.{ap}
use Rattle.ms_trace.specs.Grammar.{lines_of}
use Rattle.ms_trace.proofs.TraceLemmas.{one_trace}
use Rattle.ms_trace.proofs.laws.one_trace.Goals as goal

pub returns : goal.returns
returns c =
    λ most text one other reads others. ap (λ lines. record { lines = lines })
    (one_trace most 1 (lines_of text) one.lines other.lines reads others)
