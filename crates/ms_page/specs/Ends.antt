-- The loaders and the roots that totals have (this project's choice).
use Rattle.std.specs.Prelude.{List, [], Option, Some, None}
use Rattle.ms_answers.specs.declared.details.Details.{Details}
use Rattle.ms_answers.specs.declared.details.LoaderDetails.{LoaderDetails}
use Rattle.ms_pool.specs.declared.mapping.RootMap.{RootMap}

-- The sums of each loader; none where there are no details.
abbrev pub loaders_in : Option Details → List LoaderDetails
loaders_in None = []
loaders_in (Some details) = details.loaders.items

-- The map of each root; none where there are no details.
abbrev pub roots_in : Option Details → List RootMap
roots_in None = []
roots_in (Some details) = details.roots.items
