use Rattle.ms_page.proofs.PeakLemmas.{is_peak}
use Rattle.ms_page.proofs.laws.peaks_are_reached.Goals as goal

pub returns : goal.returns
returns c = is_peak
