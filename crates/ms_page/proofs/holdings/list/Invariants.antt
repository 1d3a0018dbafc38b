use Rattle.std.proofs.Common.{◌≡◌, map, take}
use Rattle.ms_page.specs.Holdings.{holding_of}
use Rattle.ms_page.proofs.holdings.list.Given as goal

-- what the first loaders hold
abbrev pub invariant-loop-loader : goal.invariant-loop-loader
invariant-loop-loader l = l.holdings.items ≡ map (holding_of l.course) (take l.loader-index l.loaders)
