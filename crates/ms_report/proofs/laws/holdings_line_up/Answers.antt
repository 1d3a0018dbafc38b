use Rattle.std.proofs.Common.{refl}
use Rattle.ms_report.proofs.PaddingLemmas.{holding_line_length}
use Rattle.ms_report.proofs.laws.holdings_line_up.Goals as goal

pub returns : goal.returns
returns c = (refl, holding_line_length)
