use Rattle.ms_buddy.proofs.bits.NumberLemmas.{holder_fits}
use Rattle.ms_buddy.proofs.free_bits.start_of_holder.Goals as goal

pub returns-clause-in_root : goal.returns-clause-in_root
returns-clause-in_root c =
    rw c.words_of.ensures.size (holder_fits c.args.level c.args.at c.requires.low c.requires.in_root)
