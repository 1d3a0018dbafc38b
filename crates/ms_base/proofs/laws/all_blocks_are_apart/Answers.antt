use Rattle.ms_base.proofs.machine.AllBlocksLemmas.{blocks_are_packed}
use Rattle.ms_base.proofs.laws.all_blocks_are_apart.Goals as goal

pub returns : goal.returns
returns c = λ space m good. blocks_are_packed space m good
