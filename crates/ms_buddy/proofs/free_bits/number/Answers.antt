use Rattle.ms_buddy.proofs.bits.NumberLemmas.{number_fits, number_is}
use Rattle.ms_buddy.proofs.free_bits.number.Goals as goal

pub returns-clause-same : goal.returns-clause-same
returns-clause-same c = number_is c.args.level c.args.start

pub returns-clause-within : goal.returns-clause-within
returns-clause-within c = number_fits c.args.level c.args.start c.requires.low c.requires.in_root
