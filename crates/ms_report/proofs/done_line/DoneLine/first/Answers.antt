-- The first line is that of 0.
use Rattle.ms_report.proofs.DoneLemmas.{first_done}
use Rattle.ms_report.proofs.done_line.DoneLine.first.Goals as goal

pub invariant_of-result : goal.invariant_of-result
invariant_of-result c = first_done
