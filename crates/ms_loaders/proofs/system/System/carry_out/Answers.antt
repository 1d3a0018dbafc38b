use Rattle.ms_loaders.proofs.StepServedLemmas.{is_done}
use Rattle.ms_loaders.proofs.system.System.carry_out.Goals as goal

pub returns-in_default : goal.returns-in_default
returns-in_default c = record {
  served = is_done _ _ c.args.step c.step.result c.requires c.in_default.not-Refused c.step.ensures.step;
  refused = tt;
}
