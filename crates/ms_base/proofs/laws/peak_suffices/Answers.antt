use Rattle.ms_base.proofs.machine.LimitLemmas.{same_run}
use Rattle.ms_base.proofs.laws.peak_suffices.Goals as goal

pub returns : goal.returns
returns c = λ old new peak limit steps replies below most. same_run steps replies old new peak limit below most
