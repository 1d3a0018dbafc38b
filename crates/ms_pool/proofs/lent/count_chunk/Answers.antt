use Rattle.std.proofs.Common.{◌+◌, ℕ, ap, refl}
use Rattle.ms_pool.proofs.counts.LentCountLemmas.{comes_one}
use Rattle.ms_pool.proofs.lent.count_chunk.Goals as goal

pub returns : goal.returns
returns c =
    comes_one c.args.counted.now _ c.args.chunk.now c.one_more.ensures
    (ap (λ (n : ℕ). c.args.counted.now.capacity + n) c.words.ensures.size) refl
