use Rattle.ms_loader.proofs.loader.Loader.calloc.Goals as goal

pub allocate-requires : goal.allocate-requires
allocate-requires g c = c.requires

pub returns-clause-served : goal.returns-clause-served
returns-clause-served g c = c.allocate.ensures.served

pub returns-clause-rest : goal.returns-clause-rest
returns-clause-rest g c = c.allocate.ensures.rest

pub returns-clause-allocates : goal.returns-clause-allocates
returns-clause-allocates g c = c.allocate.ensures.allocates
