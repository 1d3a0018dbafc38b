use Rattle.std.proofs.Common.{rules}
use Rattle.ms_pool.proofs.pool.Pool.grow.Goals as goal

pub returns-clause-sound : goal.returns-clause-sound
returns-clause-sound c = record {
  before = rw (← c.self.view_is) c.self.invariant.kept.sound;
  after = search rules;
  held = c.grow.ensures.chunks.0;
  holds = c.grow.ensures.chunks.1;
}
