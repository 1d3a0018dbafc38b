use Rattle.std.proofs.Common.{refl}
use Rattle.ms_report.proofs.PaddingLemmas.{loader_line_length}
use Rattle.ms_report.proofs.laws.loaders_line_up.Goals as goal

pub returns : goal.returns
returns c = (refl, loader_line_length)
