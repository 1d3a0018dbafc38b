use Rattle.std.proofs.Common.{◌≡◌, ◌∙◌, subst}
use Rattle.ms_base.specs.Names.{named}
use Rattle.ms_base.specs.State.{Machine}
use Rattle.ms_loader_map.specs.Used.{used_if}
use Rattle.ms_loaders.proofs.sums.UsedLemmas.{used_mapped}
use Rattle.ms_loaders.proofs.system.System.used_by.Goals as goal

pub returns : goal.returns
returns c =
    subst (λ (m : Machine). c.used_by.result ≡ used_if (named m.loaders c.args.name)) c.self.view_is
    (c.used_by.ensures ∙ used_mapped c.self.inside.loaders c.args.name)
