-- The number times the words of the level is less than twice the words of a root.
use Rattle.std.proofs.Common.{arith}
use Rattle.ms_buddy.proofs.bits.NumberLemmas.{row_high, row_low}
use Rattle.ms_buddy.proofs.free_bits.start_of.Goals as goal

pub overflow_sub-result-2 : goal.overflow_sub-result-2
overflow_sub-result-2 c = omega (
  arith,
  row_low c.args.level c.args.number c.requires.low c.requires.from,
  row_high c.args.level c.args.number c.requires.low c.requires.below,
)

pub returns : goal.returns
returns c = omega (
  arith,
  row_low c.args.level c.args.number c.requires.low c.requires.from,
  row_high c.args.level c.args.number c.requires.low c.requires.below,
)
