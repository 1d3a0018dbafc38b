use Rattle.ms_report.proofs.PaddingLemmas.{number_line_length}
use Rattle.ms_report.proofs.laws.numbers_line_up.Goals as goal

pub returns : goal.returns
returns c = number_line_length
