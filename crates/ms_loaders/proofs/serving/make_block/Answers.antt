use Rattle.ms_loaders.proofs.serving.make_block.Goals as goal

pub returns-in-Ok : goal.returns-in-Ok
returns-in-Ok g c = c.in-Ok.ensures.served
