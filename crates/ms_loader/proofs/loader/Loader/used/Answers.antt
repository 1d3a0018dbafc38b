use Rattle.std.proofs.Common.{◌+◌}
use Rattle.ms_loader.proofs.loader.Loader.used.Goals as goal

pub returns : goal.returns
returns c = rw (← c.self.view_is) (λ i. c.used.ensures.sum i + c.used-2.ensures.sum i)
