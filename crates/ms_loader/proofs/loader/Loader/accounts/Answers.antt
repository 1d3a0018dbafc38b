use Rattle.std.proofs.Common.{◌∙◌}
use Rattle.ms_loader.proofs.calls.ViewLemmas.{own_account, own_class_account, view_is_sound}
use Rattle.ms_loader.proofs.loader.Loader.accounts.Goals as goal

pub returns-clause-account : goal.returns-clause-account
returns-clause-account c =
    rw (← c.self.view_is) (c.account.ensures.account ∙ own_account c.self.inside c.self.invariant)

pub returns-clause-class_account : goal.returns-clause-class_account
returns-clause-class_account c =
    rw (← c.self.view_is) (c.account-2.ensures.account ∙ own_class_account c.self.inside c.self.invariant)

pub returns-clause-sound : goal.returns-clause-sound
returns-clause-sound c = rw (← c.self.view_is) (view_is_sound c.self.inside c.self.invariant)
