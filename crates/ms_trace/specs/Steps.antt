-- What a command asks of the machine.
use Rattle.std.specs.Prelude.{Option, Some, None}
use Rattle.ms_base.specs.declared.step.Step.{Step}
use Rattle.ms_trace.specs.declared.trace.Command.{Command}
use Rattle.ms_trace.specs.declared.trace.Command.TheVariants.{Step as Asks, Sync, Report}

-- The step that a command asks; a sync and a report ask none.
abbrev pub step_of : Command → Option Step
step_of (Asks step) = Some step
step_of Sync = None
step_of Report = None
