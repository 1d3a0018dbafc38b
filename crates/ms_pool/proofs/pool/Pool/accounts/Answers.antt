use Rattle.std.proofs.Common.{ℕ, ◌+◌, ap, ap₂, ◌∙◌}
use Rattle.ms_pool.specs.declared.lender.Lender.{Lender}
use Rattle.ms_pool.specs.Ledger.{Ledger}
use Rattle.ms_pool.proofs.pool.Pool.accounts.Goals as goal

pub returns-clause-sum : goal.returns-clause-sum
returns-clause-sum c =
    ap₂ (λ (a b : ℕ). a + b) (c.from.ensures ∙ ap (λ (lender : Lender). lender.opened) c.deref.ensures)
    (c.from-2.ensures ∙ ap (λ (lender : Lender). lender.class_opened) c.deref-2.ensures)
    ∙ ap (λ (ledger : Ledger). ledger.opened + ledger.class_opened) c.self.view_is

pub returns-clause-sound : goal.returns-clause-sound
returns-clause-sound c = rw (← c.self.view_is) c.self.invariant.kept.sound
