use Rattle.std.proofs.Common.{arith}
use Rattle.ms_page.proofs.AxisLemmas.{step_is_small, step_is_some}
use Rattle.ms_page.proofs.axis.count_step.Goals as goal

pub overflow_cast-result : goal.overflow_cast-result
overflow_cast-result c =
    omega (arith, step_is_small c.from-whole.result c.in_decade.result c.in_decade.ensures (omega arith))

pub returns-clause-some : goal.returns-clause-some
returns-clause-some c = step_is_some c.from-whole.result c.in_decade.result c.in_decade.ensures
