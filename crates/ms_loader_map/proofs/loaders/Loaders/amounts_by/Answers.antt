use Rattle.std.proofs.Common.{ap, ◌∙◌}
use Rattle.ms_loader.specs.Amounts.{amounts_at}
use Rattle.ms_loader_map.proofs.loaders.Loaders.amounts_by.Goals as goal

pub returns-in_default : goal.returns-in_default
returns-in_default c = ap amounts_at c.in_default.ensures

pub returns : goal.returns
returns c = c.amounts.ensures ∙ ap amounts_at c.in-Some.ensures
