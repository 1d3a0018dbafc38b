use Rattle.std.proofs.Common.{refl}
use Rattle.ms_report.proofs.PaddingLemmas.{level_line_length}
use Rattle.ms_report.proofs.laws.levels_line_up.Goals as goal

pub returns : goal.returns
returns c = (refl, level_line_length)
