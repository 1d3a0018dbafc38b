use Rattle.std.proofs.Common.{ap, ◌∙◌}
use Rattle.ms_loader_map.specs.Used.{used_at}
use Rattle.ms_loader_map.proofs.loaders.Loaders.used_by.Goals as goal

pub returns-in-Some : goal.returns-in-Some
returns-in-Some c = c.used.ensures ∙ ap used_at c.in-Some.ensures

pub returns-in-None : goal.returns-in-None
returns-in-None c = ap used_at c.in-None.ensures
