use Rattle.std.proofs.Common.{◌∷◌, []}
use Rattle.ms_pool.proofs.counts.LentCountLemmas.{room_without}
use Rattle.ms_pool.proofs.lent.count_greater.Goals as goal

pub count_chunk-requires : goal.count_chunk-requires
count_chunk-requires c =
    room_without c.args.counted.now c.discount_chunk.new.counted (c.args.chunk.now ∷ []) c.args.greater.now
    c.discount_chunk.ensures c.requires.room
