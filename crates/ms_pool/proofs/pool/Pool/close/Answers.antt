use Rattle.ms_pool.proofs.pool.Pool.close.Goals as goal

pub returns-clause-closed : goal.returns-clause-closed
returns-clause-closed c =
    rw (← c.self.view_is, c.deref_mut-2.ensures.value) (rw c.deref_mut.ensures.value at c.close.ensures.closed)

pub returns-clause-before : goal.returns-clause-before
returns-clause-before c = rw (← c.self.view_is) c.self.invariant.kept.sound
