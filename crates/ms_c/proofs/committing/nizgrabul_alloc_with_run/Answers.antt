use Rattle.ms_c.proofs.committing.nizgrabul_alloc_with_run.Goals as goal

pub returns-clause-step : goal.returns-clause-step
returns-clause-step c = c.allocate.ensures.step

pub returns-clause-run : goal.returns-clause-run
returns-clause-run c = c.allocate.ensures.run
