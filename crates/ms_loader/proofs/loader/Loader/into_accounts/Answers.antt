use Rattle.std.proofs.Common.{◌∙◌}
use Rattle.ms_loader.proofs.calls.ViewLemmas.{own_account, own_class_account}
use Rattle.ms_loader.proofs.loader.Loader.into_accounts.Goals as goal

pub returns-clause-account : goal.returns-clause-account
returns-clause-account c =
    rw (← c.self.view_is) (c.into_account.ensures ∙ own_account c.self.inside c.self.invariant)

pub returns-clause-class_account : goal.returns-clause-class_account
returns-clause-class_account c =
    rw (← c.self.view_is) (c.into_account-2.ensures ∙ own_class_account c.self.inside c.self.invariant)
