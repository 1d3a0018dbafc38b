use Rattle.std.proofs.Common.{◌≡◌, ◌∙◌, subst}
use Rattle.ms_base.specs.Names.{named}
use Rattle.ms_base.specs.State.{Machine}
use Rattle.ms_loader.specs.Amounts.{amounts_if}
use Rattle.ms_loaders.proofs.sums.UsedLemmas.{amounts_mapped}
use Rattle.ms_loaders.proofs.system.System.amounts_by.Goals as goal

pub returns : goal.returns
returns c =
    subst (λ (m : Machine). c.amounts_by.result ≡ amounts_if (named m.loaders c.args.name)) c.self.view_is
    (c.amounts_by.ensures ∙ amounts_mapped c.self.inside.loaders c.args.name)
