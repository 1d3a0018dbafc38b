use Rattle.std.proofs.Common.{length, ap, ◌∙◌}
use Rattle.ms_pool.specs.Ledger.{Ledger}
use Rattle.ms_pool.proofs.pool.Pool.class_committed.Goals as goal

pub returns : goal.returns
returns c =
    (rw c.deref.ensures at c.committed_in.ensures) ∙ ap (λ (ledger : Ledger). length ledger.class_committed) c.self.view_is
