use Rattle.ms_course.proofs.PeakLemmas.{is_most}
use Rattle.ms_course.proofs.laws.most_is_reached.Goals as goal

pub returns : goal.returns
returns c = is_most
