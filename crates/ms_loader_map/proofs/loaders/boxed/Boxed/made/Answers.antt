use Rattle.std.proofs.Common.{subst}
use Rattle.ms_loader.specs.Loader.{IsSoundView}
use Rattle.ms_loader_map.proofs.loaders.boxed.Boxed.made.Goals as goal

pub returns-clause-sound : goal.returns-clause-sound
returns-clause-sound c = subst IsSoundView c.new.ensures.made c.new.ensures.sound
