use Rattle.std.proofs.Common.{◌∙◌}
use Rattle.ms_run.proofs.between.counted.Goals as goal

pub returns-in-Some : goal.returns-in-Some
returns-in-Some c = c.with_used.ensures ∙ c.in_ok-totals.ensures
