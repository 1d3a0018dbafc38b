use Rattle.ms_course.proofs.FallingLemmas.{falls_within}
use Rattle.ms_course.proofs.laws.lines_fall_into_columns.Goals as goal

pub returns : goal.returns
returns c = falls_within
