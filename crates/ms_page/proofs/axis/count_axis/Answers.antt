use Rattle.ms_page.proofs.AxisLemmas.{top_is_small}
use Rattle.ms_page.proofs.axis.count_axis.Goals as goal

pub returns-clause-small : goal.returns-clause-small
returns-clause-small c few =
    top_is_small c.args.count c.count_step-step.result c.steps.result c.count_step-step.ensures.step c.steps.ensures few
