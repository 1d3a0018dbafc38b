use Rattle.ms_course.proofs.FallingLemmas.{falls_alone}
use Rattle.ms_course.proofs.laws.few_lines_stand_alone.Goals as goal

pub returns : goal.returns
returns c = falls_alone
