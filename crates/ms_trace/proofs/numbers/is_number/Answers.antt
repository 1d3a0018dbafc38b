use Rattle.std.proofs.Common.{arith}
use Rattle.std.proofs.lemmas.Bool.Decides.{nat_tests}
use Rattle.ms_trace.proofs.NumberLemmas.{written_short}
use Rattle.ms_trace.proofs.numbers.is_number.Goals as goal

pub returns-then-digits-ne48 : goal.returns-then-digits-ne48
returns-then-digits-ne48 c = λ _.
    written_short c.args.digits.now c.args.value c.requires.digits c.requires.value
    (grind (arith, nat_tests, c.is_empty.ensures, c.if-is_empty.false))
    (omega (arith, c.if-digits-gt19.false)) (λ zero. absurd (c.if-digits-ne48.true zero))

pub returns-else-digits-ne48 : goal.returns-else-digits-ne48
returns-else-digits-ne48 c = λ alone.
    written_short c.args.digits.now c.args.value c.requires.digits c.requires.value
    (grind (arith, nat_tests, c.is_empty.ensures, c.if-is_empty.false))
    (omega (arith, c.if-digits-gt19.false)) (λ _. grind (arith, nat_tests, alone))
