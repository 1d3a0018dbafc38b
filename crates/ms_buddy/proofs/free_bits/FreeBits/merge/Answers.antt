-- A part's number is half that of the part below.
use Rattle.std.proofs.Common.{rules, ◌≡◌, ◌/◌, ℕ, ap, sym, ◌∙◌, arith}
use Rattle.ms_buddy.specs.Counts.{buddy_of, holder_of, number_of}
use Rattle.ms_buddy.specs.FreeBits.{bit_of}
use Rattle.ms_buddy.specs.Leaves.{span_at}
use Rattle.ms_buddy.proofs.bits.BesideLemmas.{join_done, none_put, put_above, was_clear, was_set}
use Rattle.ms_buddy.proofs.bits.BitLemmas.{clear_bit}
use Rattle.ms_buddy.proofs.bits.BuddyLemmas.{number_of-holder}
use Rattle.ms_buddy.proofs.bits.NumberLemmas.{and_above, number_above, number_of-small}
use Rattle.ms_buddy.proofs.free_bits.FreeBits.merge.Goals as goal
use Rattle.ms_buddy.proofs.free_bits.FreeBits.merge.Goals.{then-loop-free-test+else-has, else-loop-free-test}

pub loop-free-init : goal.loop-free-init
loop-free-init c = record {
  low = omega arith;
  number = c.number-number.ensures.same;
  cleared = none_put _ c.args.at c.args.lent 0;
  passed = λ below h k. absurd (omega (arith, h, k));
  filled = λ are. are;
}

pub buddy_of-requires : goal.buddy_of-requires
buddy_of-requires c =
    rw c.loop-free.invariant.number
    (number_of-small c.loop-free.free c.args.at (omega (arith, c.loop-free.invariant.low, c.requires.low)) c.requires.in_root)

pub loop-free-preserved : goal.loop-free-preserved
loop-free-preserved c = record {
  low = omega (arith, c.loop-free.invariant.low);
  number = ap (λ (n : ℕ). n / 2) c.loop-free.invariant.number
      ∙ number_above c.loop-free.free c.args.at (omega (arith, c.loop-free-test.true))
      (omega (arith, c.loop-free.invariant.low, c.requires.low));
  cleared = put_above _ _ _ c.loop-free.free c.args.at c.args.lent _ 0 (omega (arith, c.loop-free-test.true))
      c.loop-free.invariant.low c.requires.low c.requires.in_root
      (c.buddy_of-in-loop-free.ensures.same ∙ ap buddy_of c.loop-free.invariant.number) c.loop-free.invariant.cleared
      c.put.ensures.bits;
  passed = and_above (λ (below : ℕ). bit_of c.args.self.now.words (buddy_of (number_of (span_at c.args.at below))) ≡ 1)
      c.loop-free.free c.args.lent
      (was_set _ _ _ _ c.loop-free.invariant.cleared
      (rw (← c.loop-free.invariant.number, ← c.buddy_of.ensures.same) (search rules)))
      c.loop-free.invariant.passed;
  filled = λ are. c.put.ensures.filled (c.loop-free.invariant.filled are);
}

pub put-requires-2 : goal.put-requires-2
put-requires-2 c = omega (
  arith,
  c.loop-free.invariant.number,
  number_of-small c.loop-free.free c.args.at (omega (arith, c.loop-free.invariant.low, c.requires.low)) c.requires.in_root,
)

pub returns-clause-apart : goal.returns-clause-apart
returns-clause-apart c some = elim c.loop-free-test.branch [
  | then-loop-free-test+else-has w ↦
      was_clear _ _ c.loop-free.free c.args.at c.args.lent c.loop-free.invariant.low c.requires.low c.requires.in_root
      c.loop-free.invariant.cleared
      (rw (← c.loop-free.invariant.number, ← w.buddy_of.ensures.same)
      (clear_bit c.loop-free.self.words w.buddy_of.result (sym w.has.ensures ∙ w.if-has.false)))
  | else-loop-free-test w ↦ absurd (omega (arith, some, w.loop-free-test.false))
]

pub returns-clause-bits : goal.returns-clause-bits
returns-clause-bits c may =
    join_done _ _ _ _ (holder_of c.loop-free.free (span_at c.args.at c.args.lent)) (span_at c.args.at c.args.lent)
    (c.loop-free.invariant.number ∙ number_of-holder c.loop-free.free (span_at c.args.at c.args.lent)
    (omega (arith, c.loop-free.invariant.low, c.requires.low)) c.requires.in_root)
    may c.loop-free.invariant.cleared c.put-2.ensures.bits

pub returns-clause-filled : goal.returns-clause-filled
returns-clause-filled c are = c.put-2.ensures.filled (c.loop-free.invariant.filled are)
