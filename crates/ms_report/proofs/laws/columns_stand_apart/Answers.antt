use Rattle.ms_report.proofs.PaddingLemmas.{digits_stand_apart}
use Rattle.ms_report.proofs.laws.columns_stand_apart.Goals as goal

pub returns : goal.returns
returns c = digits_stand_apart
