use Rattle.std.specs.Map.{values_of}
use Rattle.std.specs.List.{All}
use Rattle.ms_loader.specs.Loader.{IsSoundView}
use Rattle.ms_loader_map.proofs.loaders.Loaders.learn.Given as goal

-- If those to come are sound, all are.
abbrev pub invariant-loop-loader : goal.invariant-loop-loader
invariant-loop-loader l = All IsSoundView l.loader-iterator → All IsSoundView (values_of l.fn.self)
