use Rattle.ms_base.proofs.granules.TakingLimitLemmas.{taking_keeps_the_limit}
use Rattle.ms_base.proofs.laws.taking_keeps_the_limit.Goals as goal

pub returns : goal.returns
returns c =
    λ pool p m words chunk sound h k some fits is. taking_keeps_the_limit pool p m words chunk sound h k some fits is
