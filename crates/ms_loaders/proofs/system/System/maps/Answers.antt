use Rattle.ms_base.specs.declared.kind.Space.TheVariants.{NonClass, Class}
use Rattle.ms_loaders.proofs.sums.MapLemmas.{maps_tell}
use Rattle.ms_loaders.proofs.system.System.maps.Goals as goal

pub returns : goal.returns
returns c =
    let its = c.self.inside in
    rw (
      ← c.self.view_is,
      ← maps_tell its.pool its.loaders c.self.invariant.together NonClass,
      ← maps_tell its.pool its.loaders c.self.invariant.together Class,
    ) c.maps.ensures
