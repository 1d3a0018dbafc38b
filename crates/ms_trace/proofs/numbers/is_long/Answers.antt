use Rattle.std.proofs.Common.{arith}
use Rattle.std.proofs.lemmas.Bool.Decides.{nat_tests}
use Rattle.ms_trace.proofs.NumberLemmas.{written_long}
use Rattle.ms_trace.proofs.numbers.is_long.Goals as goal

pub returns-then-digits-eq49 : goal.returns-then-digits-eq49
returns-then-digits-eq49 c = λ large.
    written_long c.args.digits.now c.args.value c.requires.digits c.requires.value (omega (arith, c.if-digits-ne20.false))
    (omega (arith, c.if-digits-eq49.true)) (grind (arith, nat_tests, large))
