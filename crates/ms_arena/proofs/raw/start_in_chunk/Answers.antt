use Rattle.std.proofs.Common.{arith, rules}
use Rattle.ms_arena.proofs.AllocLemmas.{grown_leaves}
use Rattle.ms_arena.proofs.raw.start_in_chunk.Goals as goal

pub returns-in-Ok-clause-looked : goal.returns-in-Ok-clause-looked
returns-in-Ok-clause-looked g c =
    let asks = c.in-Some.ensures.asks c.args.kind c.next_level-next.ensures in
    record {
      served = c.in-Ok.ensures.served;
      rest = c.in-Ok.ensures.rest;
      leaves = grown_leaves _ _ c.args.books.now c.in-Some.chunk c.in-Some.total c.in-Some.may_enlarge c.args.source.now _ _
          c.args.n _ c.in-Ok.ensures.grown
          (c.in-Ok.ensures.awaits _ c.args.n (omega (arith, asks.total_is)) asks.total_is) c.in-Ok.ensures.chunks;
    }

pub returns-in-Ok-clause-asks : goal.returns-in-Ok-clause-asks
returns-in-Ok-clause-asks g c = λ live.
    let asks = c.in-Some.ensures.asks c.args.kind c.next_level-next.ensures in
    rw (asks.found, asks.asks) (search rules)
