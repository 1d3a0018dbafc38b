use Rattle.std.proofs.Common.{◌∙◌}
use Rattle.ms_shared.proofs.shared_pool.SharedPool.into_pool.Goals as goal

pub gathered-requires-clause-made : goal.gathered-requires-clause-made
gathered-requires-clause-made c = c.self.invariant.0 ∙ c.if-self-len.false ∙ c.len.ensures
