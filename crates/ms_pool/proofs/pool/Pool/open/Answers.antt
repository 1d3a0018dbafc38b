use Rattle.ms_pool.specs.Keeping.{ledger_of}
use Rattle.ms_pool.proofs.ledger.ClosedLemmas.{opened_is_served}
use Rattle.ms_pool.proofs.pool.Pool.open.Goals as goal

pub returns-clause-served : goal.returns-clause-served
returns-clause-served c =
    opened_is_served (ledger_of c.self.inside.lender.value) c.args.space c.open.result (ledger_of c.open.new.self)
    c.self.invariant.kept.sound
    (rw c.deref_mut.ensures.value at c.open.ensures.opened)

pub returns-clause-before : goal.returns-clause-before
returns-clause-before c = rw (← c.self.view_is) c.self.invariant.kept.sound
