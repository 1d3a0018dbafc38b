use Rattle.ms_buddy.proofs.bits.NumberLemmas.{words_at}
use Rattle.ms_buddy.proofs.parts.words_of.Goals as goal

pub returns-clause-size : goal.returns-clause-size
returns-clause-size c = words_at c.args.level c.requires
