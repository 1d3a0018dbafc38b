use Rattle.std.proofs.Common.{Some, sym, ap, ◌∙◌}
use Rattle.ms_loader_map.proofs.loaders.Loaders.remove.Goals as goal

pub returns-in-Some-clause-found : goal.returns-in-Some-clause-found
returns-in-Some-clause-found c = ap (λ entry. Some entry.1) c.into_named-loader.ensures ∙ sym c.in-Some.ensures.found
