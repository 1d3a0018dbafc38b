use Rattle.std.proofs.Common.{◌≡◌, Option, None, Some, Bor, is_some, ap, refl, ◌∙◌}
use Rattle.std.specs.Option.{option_copied}
use Rattle.ms_loader.specs.Loader.{LoaderView}
use Rattle.ms_loader_map.proofs.loaders.Loaders.contains.Goals as goal

-- One was lent where there is one.
lent_is_some : (lent : Option (Bor LoaderView)) → is_some lent ≡ is_some (option_copied lent)
lent_is_some None = refl
lent_is_some (Some loader) = refl

pub returns : goal.returns
returns c = c.is_some.ensures ∙ lent_is_some c.get.result ∙ ap is_some c.get.ensures
