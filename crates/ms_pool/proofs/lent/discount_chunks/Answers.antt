use Rattle.std.proofs.Common.{[], List, subst, arith}
use Rattle.std.proofs.lemmas.List.{take_all}
use Rattle.std.proofs.lemmas.List.Elements.{All-contains}
use Rattle.ms_base.specs.declared.span.Chunk.{Chunk}
use Rattle.ms_base.specs.Part.{IsPart}
use Rattle.ms_pool.specs.Counting.{Moves}
use Rattle.ms_pool.proofs.counts.LentCountLemmas.{goes_next, least_next, none_gone}
use Rattle.ms_pool.proofs.ledger.LoanAtLemmas.{contains_at}
use Rattle.ms_pool.proofs.lent.discount_chunks.Goals as goal

pub loop-index-init : goal.loop-index-init
loop-index-init c = none_gone c.args.counted.now

pub discount_chunk-requires : goal.discount_chunk-requires
discount_chunk-requires c =
    least_next c.args.counted.now c.loop-index.counted c.args.account.now.chunks c.loop-index.index c.chunk.result
    c.chunk.ensures
    (omega (
      arith,
      (All-contains (λ (one : Chunk). IsPart one.start one.level) c.args.account.now.chunks c.chunk.result
          c.held-index-end.ensures.chunks.parts
          (contains_at c.args.account.now.chunks c.loop-index.index c.chunk.result c.chunk.ensures)).0,
    )) c.requires c.loop-index.invariant

pub loop-index-preserved : goal.loop-index-preserved
loop-index-preserved c =
    goes_next c.args.counted.now c.loop-index.counted c.discount_chunk.new.counted c.args.account.now.chunks
    c.loop-index.index c.chunk.result c.chunk.ensures c.loop-index.invariant c.discount_chunk.ensures

pub returns : goal.returns
returns c =
    subst (λ (l : List Chunk). Moves c.args.counted.now l [] c.loop-index.counted)
    (take_all c.loop-index.index c.args.account.now.chunks
    (omega (arith, c.held-index-end.ensures.count, c.loop-index-test.false))) c.loop-index.invariant
