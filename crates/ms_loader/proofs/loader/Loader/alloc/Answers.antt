use Rattle.ms_loader.proofs.loader.Loader.alloc.Goals as goal

pub returns-clause-allocates : goal.returns-clause-allocates
returns-clause-allocates g c = c.allocate.ensures.allocates
