use Rattle.ms_run.proofs.SeenLemmas.{last_sight_is}
use Rattle.ms_run.proofs.laws.last_sight_is_the_machine.Goals as goal

pub returns : goal.returns
returns c = last_sight_is
