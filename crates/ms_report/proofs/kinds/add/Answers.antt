use Rattle.std.proofs.Common.{arith, refl}
use Rattle.ms_report.proofs.kinds.add.Goals as goal

pub returns-clause-below : goal.returns-clause-below
returns-clause-below c count below = record {
  loaders = omega (arith, below.loaders);
  chunks = omega (arith, below.chunks, c.both.ensures.small);
  capacity = omega (arith, below.capacity, c.both-2.ensures.small);
  fronts = omega (arith, below.fronts, c.both-3.ensures.small);
  used = omega (arith, below.used, c.both-4.ensures.small);
  live = omega (arith, below.live, c.both-5.ensures.small);
  free_blocks = omega (arith, below.free_blocks, c.both-6.ensures.small);
  waste = omega (arith, below.waste, c.both-7.ensures.small);
}

pub returns-clause-sums : goal.returns-clause-sums
returns-clause-sums c =
    rw (
      c.both.ensures.sum,
      c.from.ensures,
      c.from-2.ensures,
      c.both-2.ensures.sum,
      c.both-3.ensures.sum,
      c.both-4.ensures.sum,
      c.both-5.ensures.sum,
      c.both-6.ensures.sum,
      c.both-7.ensures.sum,
    ) refl
