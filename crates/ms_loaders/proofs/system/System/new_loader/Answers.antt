use Rattle.ms_loader.proofs.calls.ReplacedLemmas.{err_then}
use Rattle.ms_loaders.proofs.StepServedLemmas.{new_leaves}
use Rattle.ms_loaders.proofs.system.System.new_loader.Goals as goal

pub returns-clause-unchanged : goal.returns-clause-unchanged
returns-clause-unchanged c = err_then _ _ c.carry_out.result
    (λ refusal goes. new_leaves _ _ c.args.name c.args.kind refusal goes) c.carry_out.ensures.refused
