use Rattle.ms_course.proofs.FallingLemmas.{falls_within}
use Rattle.ms_course.proofs.PeakLemmas.{has_peak}
use Rattle.ms_course.proofs.laws.no_peak_is_lost.Goals as goal

pub returns : goal.returns
returns c = λ amount lines moments some few. has_peak amount lines moments (falls_within lines) some few
