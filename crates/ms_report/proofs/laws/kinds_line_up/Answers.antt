use Rattle.std.proofs.Common.{refl}
use Rattle.ms_report.proofs.PaddingLemmas.{kind_line_length}
use Rattle.ms_report.proofs.laws.kinds_line_up.Goals as goal

pub returns : goal.returns
returns c = (refl, kind_line_length)
