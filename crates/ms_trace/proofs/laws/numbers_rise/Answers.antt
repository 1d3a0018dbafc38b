use Rattle.std.proofs.Common.{arith}
use Rattle.ms_trace.specs.Grammar.{lines_of}
use Rattle.ms_trace.proofs.TraceLemmas.{numbers_rise}
use Rattle.ms_trace.proofs.laws.numbers_rise.Goals as goal

pub returns : goal.returns
returns c = λ most text trace reads. numbers_rise most 0 1 (lines_of text) trace.lines (omega arith) reads
