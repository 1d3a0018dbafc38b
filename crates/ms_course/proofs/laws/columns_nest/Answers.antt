use Rattle.ms_course.proofs.NestLemmas.{columns_nest}
use Rattle.ms_course.proofs.laws.columns_nest.Goals as goal

pub returns : goal.returns
returns c = columns_nest
