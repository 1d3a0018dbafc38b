use Rattle.std.proofs.Common.{subst}
use Rattle.ms_pool.specs.Ledger.{Ledger}
use Rattle.ms_pool.specs.Tallies.{AreTallies}
use Rattle.ms_pool.proofs.pool.Pool.committed.Goals as goal

pub returns-clause-sound : goal.returns-clause-sound
returns-clause-sound c = rw (← c.self.view_is) c.self.invariant.kept.sound

pub returns-clause-tallies : goal.returns-clause-tallies
returns-clause-tallies c = subst (λ (ledger : Ledger). AreTallies ledger.tallies) c.self.view_is
    (rw c.deref.ensures at c.read_tallies.ensures)
