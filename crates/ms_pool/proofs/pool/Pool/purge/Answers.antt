use Rattle.ms_pool.proofs.pool.Pool.purge.Goals as goal

pub returns-clause-purged : goal.returns-clause-purged
returns-clause-purged c = rw (← c.self.view_is) (rw c.deref_mut.ensures.value at c.purge.ensures.purged)

pub returns-clause-before : goal.returns-clause-before
returns-clause-before c = rw (← c.self.view_is) c.self.invariant.kept.sound
