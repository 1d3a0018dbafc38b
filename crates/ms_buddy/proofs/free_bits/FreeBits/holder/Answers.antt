-- A part's number is half that of the part below.
use Rattle.std.proofs.Common.{rules, ◌≡◌, ◌/◌, ℕ, ap, sym, ◌∙◌, arith}
use Rattle.ms_buddy.specs.Counts.{number_of}
use Rattle.ms_buddy.specs.FreeBits.{bit_of}
use Rattle.ms_buddy.specs.Leaves.{span_at}
use Rattle.ms_buddy.proofs.bits.BitLemmas.{clear_bit}
use Rattle.ms_buddy.proofs.bits.NumberLemmas.{and_above, number_above, number_of-root, number_of-small}
use Rattle.ms_buddy.proofs.free_bits.FreeBits.holder.Goals as goal

pub returns-then-has-clause-set : goal.returns-then-has-clause-set
returns-then-has-clause-set c = rw (number_of-root c.args.at c.requires.in_root) (search rules)

pub has-requires-in-loop-level : goal.has-requires-in-loop-level
has-requires-in-loop-level c =
    rw c.loop-level.invariant.number
    (number_of-small c.loop-level.holder c.args.at (omega (arith, c.loop-level.invariant.low, c.requires.low)) c.requires.in_root)

pub loop-level-preserved : goal.loop-level-preserved
loop-level-preserved c = record {
  low = omega (arith, c.loop-level.invariant.low);
  number = ap (λ (n : ℕ). n / 2) c.loop-level.invariant.number
      ∙ number_above c.loop-level.holder c.args.at (omega (arith, c.if-holder-eq0.false))
      (omega (arith, c.loop-level.invariant.low, c.requires.low));
  before = and_above (λ (other : ℕ). bit_of c.args.self.now.words (number_of (span_at c.args.at other)) ≡ 0)
      c.loop-level.holder c.args.level (rw (← c.loop-level.invariant.number)
      (clear_bit c.args.self.now.words c.loop-level.number (sym c.has-in-loop-level.ensures ∙ c.loop-level-test.true)))
      c.loop-level.invariant.before;
}
