-- The line is counted on, or made anew.
use Rattle.std.proofs.Common.{arith, subst, ◌∙◌, ℕ}
use Rattle.ms_report.specs.DoneLine.{IsDoneLine}
use Rattle.ms_report.proofs.ColumnLemmas.{digits_fit}
use Rattle.ms_report.proofs.DoneLemmas.{counted_on, made}
use Rattle.ms_report.proofs.done_line.count_on.Goals as goal

pub write_digits-requires : goal.write_digits-requires
write_digits-requires c =
    (digits_fit c.from.result (omega (arith, c.ranges.number.fits)), omega (arith, c.requires.long))

pub returns-then-bytes-lt57-clause-line : goal.returns-then-bytes-lt57-clause-line
returns-then-bytes-lt57-clause-line c =
    counted_on c.args.number c.args.last.now c.args.from.now c.args.bytes.now c.requires c.if-last-number.true
    c.if-number-last-eq1.true (omega (arith, c.ranges.number.fits)) c.if-bytes-lt57.true

pub returns-else-last-number-clause-line : goal.returns-else-last-number-clause-line
returns-else-last-number-clause-line c =
    subst (λ (n : ℕ). IsDoneLine n c.write_digits.result c.write_digits.new.buf) c.from.ensures
    (made c.from.result c.write_digits.result c.args.bytes.now c.write_digits.new.buf (omega (arith, c.ranges.number.fits))
    (c.write_digits.auto.buf ∙ c.requires.long) c.write_digits.ensures.start c.write_digits.ensures.written c.requires.word)
