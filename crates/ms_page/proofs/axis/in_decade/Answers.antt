use Rattle.std.proofs.Common.{arith}
use Rattle.ms_page.proofs.AxisLemmas.{first_step, second_step, third_step}
use Rattle.ms_page.proofs.axis.in_decade.Goals as goal

pub returns-then-decade-count : goal.returns-then-decade-count
returns-then-decade-count c =
    first_step c.args.count c.args.decade c.requires.decade (omega arith)

pub returns-then-decade-count-2 : goal.returns-then-decade-count-2
returns-then-decade-count-2 c =
    second_step c.args.count c.args.decade c.requires.decade (omega arith) (omega arith)

pub returns : goal.returns
returns c = third_step c.args.count c.args.decade c.requires.decade (omega arith)
