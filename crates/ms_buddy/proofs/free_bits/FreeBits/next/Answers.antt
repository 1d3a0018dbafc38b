-- The lowest bit of the word that the loop has reached is the answer, where it is below the end.
use Rattle.std.proofs.Common.{◌+◌, ◌*◌, ◌/◌, arith}
use Rattle.ms_buddy.proofs.bits.BitLemmas.{lowest_later, none_passed}
use Rattle.ms_buddy.proofs.free_bits.FreeBits.next.Goals as goal

pub returns-then-found-end-clause-found : goal.returns-then-found-end-clause-found
returns-then-found-end-clause-found c =
    lowest_later c.args.self.now.words c.args.from c.args.end c.loop-at.at c.in-Some.position c.loop-at.invariant.low
    c.in-Some.ensures.found c.loop-at.invariant.before c.if-found-end.true

pub returns-else-found-end-clause-none : goal.returns-else-found-end-clause-none
returns-else-found-end-clause-none c number low high =
    let lowest =
    lowest_later c.args.self.now.words c.args.from (c.loop-at.at / 64 * 64 + c.in-Some.position + 1) c.loop-at.at
    c.in-Some.position c.loop-at.invariant.low c.in-Some.ensures.found c.loop-at.invariant.before (omega arith) in
    lowest.below number low (omega (arith, high, c.if-found-end.false))

pub loop-at-preserved : goal.loop-at-preserved
loop-at-preserved c = record {
  low = omega (arith, c.loop-at.invariant.low);
  before = none_passed c.args.self.now.words c.args.self.now.filled c.args.from c.loop-at.at c.next_filled-at.result
      c.requires.filled c.in_default.ensures.none c.next_filled-at.ensures.none c.loop-at.invariant.before;
}
