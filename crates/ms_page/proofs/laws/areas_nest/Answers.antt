use Rattle.ms_page.proofs.ScaleLemmas.{areas_nest}
use Rattle.ms_page.proofs.laws.areas_nest.Goals as goal

pub returns : goal.returns
returns c = areas_nest
