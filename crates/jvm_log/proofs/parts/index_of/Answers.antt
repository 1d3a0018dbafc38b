-- What the search finds is the first index.
use Rattle.std.proofs.Common.{nat_eq}
use Rattle.ms_trace.proofs.CutLemmas.{position_from_first}
use Rattle.jvm_log.proofs.parts.index_of.Goals as goal

pub returns : goal.returns
returns c = position_from_first (λ byte. nat_eq byte c.args.byte) c.args.text.now c.memchr.result c.memchr.ensures
