use Rattle.std.proofs.Common.{arith}
use Rattle.ms_pool.proofs.counts.LentCountLemmas.{goes_one}
use Rattle.ms_pool.proofs.lent.discount_chunk.Goals as goal

pub returns : goal.returns
returns c =
    goes_one c.args.counted.now _ c.args.chunk.now c.one_less.ensures
    (omega (arith, c.words.ensures.size, c.requires.capacity)) (omega (arith, c.requires.fronts))
