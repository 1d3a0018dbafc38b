use Rattle.std.proofs.Common.{arith}
use Rattle.ms_base.specs.declared.span.Chunk.{Chunk}
use Rattle.ms_base.specs.Level.{size_of}
use Rattle.ms_arena.proofs.ChunkLemmas.{bounded_at, sum_more}
use Rattle.ms_arena.proofs.totals.sums_of.Goals as goal

pub loop-index-preserved : goal.loop-index-preserved
loop-index-preserved c =
    let chunks = c.args.account.now.chunks in
    let index = c.loop-index.index in
    let chunk = c.chunk-chunk.result in
    let bounds =
    bounded_at c.args.account.now.space chunks index chunk c.held-index-end.ensures.chunks c.chunk-chunk.ensures in
    record {
      capacity =
          omega (
            arith,
            c.words-capacity.ensures.size,
            sum_more (λ (one : Chunk). size_of one.level) chunks index c.loop-index.capacity chunk c.chunk-chunk.ensures
                c.loop-index.invariant.capacity,
          );
      fronts = sum_more (λ (one : Chunk). one.front) chunks index c.loop-index.fronts chunk c.chunk-chunk.ensures
          c.loop-index.invariant.fronts;
      words = omega (arith, c.words-capacity.ensures.small, c.loop-index.invariant.words);
      committed = omega (arith, bounds.front, bounds.size, c.loop-index.invariant.committed);
    }
