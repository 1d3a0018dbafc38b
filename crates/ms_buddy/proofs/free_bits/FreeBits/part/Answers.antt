-- A part's number is half that of the part below.
use Rattle.std.proofs.Common.{◌≡◌, ◌/◌, ℕ, ap, subst, ◌∙◌, arith}
use Rattle.ms_buddy.specs.Counts.{beside, buddy_of, holder_of, number_of}
use Rattle.ms_buddy.specs.FreeBits.{ArePut}
use Rattle.ms_buddy.specs.Leaves.{span_at}
use Rattle.ms_buddy.proofs.bits.BesideLemmas.{none_put, part_done, put_above}
use Rattle.ms_buddy.proofs.bits.NumberLemmas.{number_above, number_of-small}
use Rattle.ms_buddy.proofs.free_bits.FreeBits.part.Goals as goal

pub loop-level-init : goal.loop-level-init
loop-level-init c = record {
  high = c.requires.order;
  low = omega arith;
  number = c.number-number.ensures.same;
  put = none_put _ c.args.at c.args.lent 1;
  filled = λ are. are;
}

pub buddy_of-requires : goal.buddy_of-requires
buddy_of-requires c =
    rw c.loop-level.invariant.number
    (number_of-small c.loop-level.level c.args.at (omega (arith, c.loop-level.invariant.low, c.requires.low)) c.requires.in_root)

pub loop-level-preserved : goal.loop-level-preserved
loop-level-preserved c = record {
  high = omega (arith, c.loop-level.invariant.high, c.loop-level-test.true);
  low = omega (arith, c.loop-level.invariant.low);
  number = ap (λ (n : ℕ). n / 2) c.loop-level.invariant.number
      ∙ number_above c.loop-level.level c.args.at (omega (arith, c.loop-level.invariant.high, c.loop-level-test.true))
      (omega (arith, c.loop-level.invariant.low, c.requires.low));
  put = put_above _ _ _ c.loop-level.level c.args.at c.args.lent _ 1
      (omega (arith, c.loop-level.invariant.high, c.loop-level-test.true)) c.loop-level.invariant.low c.requires.low
      c.requires.in_root (c.buddy_of.ensures.same ∙ ap buddy_of c.loop-level.invariant.number)
      c.loop-level.invariant.put c.put.ensures.bits;
  filled = λ are. c.put.ensures.filled (c.loop-level.invariant.filled are);
}

pub put-requires-2 : goal.put-requires-2
put-requires-2 c = omega (
  arith,
  c.loop-level.invariant.number,
  number_of-small c.loop-level.level c.args.at (omega (arith, c.loop-level.invariant.low, c.requires.low)) c.requires.in_root,
)

pub returns-clause-bits : goal.returns-clause-bits
returns-clause-bits c =
    let here : c.loop-level.level ≡ c.args.free = omega (arith, c.loop-level-test.false) in
    part_done _ _ _ c.args.free c.args.at c.args.lent c.loop-level.number c.requires.order c.requires.low c.requires.in_root
    (c.loop-level.invariant.number ∙ ap (λ (level : ℕ). number_of (span_at c.args.at level)) here) c.requires.bits
    (subst (λ (level : ℕ). ArePut c.args.self.now.words (beside (holder_of level (span_at c.args.at c.args.lent))
    (span_at c.args.at c.args.lent)) 1 c.loop-level.self.words) here c.loop-level.invariant.put) c.put-2.ensures.bits

pub returns-clause-filled : goal.returns-clause-filled
returns-clause-filled c are = c.put-2.ensures.filled (c.loop-level.invariant.filled are)
