use Rattle.ms_loader_map.proofs.loaders.Loaders.close.Goals as goal

pub returns-in-Some-clause-found : goal.returns-in-Some-clause-found
returns-in-Some-clause-found c = record {
  loader = c.in-Some.boxed.1;
  found = c.in-Some.ensures.found;
  own = c.close-account.ensures;
}
