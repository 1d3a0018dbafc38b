-- What the search finds is the first offset.
use Rattle.std.proofs.Common.{nat_eq}
use Rattle.ms_trace.proofs.CutLemmas.{position_from_first}
use Rattle.ms_trace.proofs.cutting.first_newline.Goals as goal

pub returns : goal.returns
returns c = position_from_first (λ byte. nat_eq byte 10) c.args.text.now c.memchr.result c.memchr.ensures
