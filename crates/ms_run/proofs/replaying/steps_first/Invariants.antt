use Rattle.std.proofs.Common.{take}
use Rattle.ms_run.specs.Shares.{AreSteps}
use Rattle.ms_run.proofs.replaying.steps_first.Given as goal

-- the first lines ask steps
abbrev pub invariant-loop-count : goal.invariant-loop-count
invariant-loop-count l = AreSteps (take l.count l.lines)
