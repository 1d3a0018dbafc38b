use Rattle.ms_course.proofs.NestLemmas.{good_nests}
use Rattle.ms_course.proofs.laws.good_machines_nest.Goals as goal

pub returns : goal.returns
returns c = good_nests
