use Rattle.ms_page.proofs.ScaleLemmas.{steps_are_few}
use Rattle.ms_page.proofs.laws.steps_are_few.Goals as goal

pub returns : goal.returns
returns c = steps_are_few
