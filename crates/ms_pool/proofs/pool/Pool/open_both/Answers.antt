use Rattle.ms_pool.specs.Keeping.{ledger_of}
use Rattle.ms_pool.proofs.ledger.ClosedLemmas.{both_opened_are_served}
use Rattle.ms_pool.proofs.pool.Pool.open_both.Goals as goal

pub returns-clause-served : goal.returns-clause-served
returns-clause-served c =
    (both_opened_are_served (ledger_of c.self.inside.lender.value) c.open_both.result (ledger_of c.open_both.new.self)
    c.self.invariant.kept.sound (rw c.deref_mut.ensures.value at c.open_both.ensures.opened)).0

pub returns-clause-class_served : goal.returns-clause-class_served
returns-clause-class_served c =
    (both_opened_are_served (ledger_of c.self.inside.lender.value) c.open_both.result (ledger_of c.open_both.new.self)
    c.self.invariant.kept.sound (rw c.deref_mut.ensures.value at c.open_both.ensures.opened)).1

pub returns-clause-before : goal.returns-clause-before
returns-clause-before c = rw (← c.self.view_is) c.self.invariant.kept.sound
