use Rattle.ms_course.proofs.FallingLemmas.{falls_in_order}
use Rattle.ms_course.proofs.laws.lines_fall_in_order.Goals as goal

pub returns : goal.returns
returns c = falls_in_order
