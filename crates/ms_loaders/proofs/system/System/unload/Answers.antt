use Rattle.ms_loaders.proofs.StepServedLemmas.{unload_tells}
use Rattle.ms_loaders.proofs.system.System.unload.Goals as goal

pub returns-clause-no_loader : goal.returns-clause-no_loader
returns-clause-no_loader c =
    unload_tells _ _ c.args.name c.carry_out.result c.carry_out.ensures.served c.carry_out.ensures.refused
