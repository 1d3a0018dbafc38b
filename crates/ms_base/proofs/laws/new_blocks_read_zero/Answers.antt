use Rattle.ms_base.proofs.machine.WordLemmas.{read_after_alloc}
use Rattle.ms_base.proofs.laws.new_blocks_read_zero.Goals as goal

pub returns : goal.returns
returns c =
    λ space old name block index words start value r. read_after_alloc space old name block index words start value r
