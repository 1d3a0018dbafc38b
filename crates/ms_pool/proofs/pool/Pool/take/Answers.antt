use Rattle.std.proofs.Common.{rules}
use Rattle.ms_pool.proofs.pool.Pool.take.Goals as goal

pub returns-clause-sound : goal.returns-clause-sound
returns-clause-sound c = record {
  before = rw (← c.self.view_is) c.self.invariant.kept.sound;
  after = search rules;
  held = c.take.ensures.chunks.0;
  holds = c.take.ensures.chunks.1;
}
