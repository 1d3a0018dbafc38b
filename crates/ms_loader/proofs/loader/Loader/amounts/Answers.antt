use Rattle.ms_base.specs.declared.kind.Space.TheVariants.{NonClass, Class}
use Rattle.std.proofs.Common.{◌∙◌}
use Rattle.ms_loader.proofs.SumsLemmas.{live_is}
use Rattle.ms_loader.proofs.loader.Loader.amounts.Goals as goal

pub returns : goal.returns
returns c = rw (← c.self.view_is) (λ i. record {
  used = c.used.ensures.sum i;
  live = (c.live.ensures ∙ live_is c.self.inside c.self.invariant NonClass) i;
  class_used = c.used-2.ensures.sum i;
  class_live = (c.live-2.ensures ∙ live_is c.self.inside c.self.invariant Class) i;
})
