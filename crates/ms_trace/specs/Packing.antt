-- How a line is packed: what it asks, and the step, each by itself.
use Rattle.std.specs.Prelude.{◌≡◌, ⊤}
use Rattle.ms_base.specs.declared.step.Step.{Step}
use Rattle.ms_base.specs.declared.step.Step.TheVariants.{Purge}
use Rattle.ms_trace.specs.declared.trace.Asks.{Asks}
use Rattle.ms_trace.specs.declared.trace.Asks.TheVariants.{Step as AsksStep, Sync as AsksSync, Report as AsksReport}
use Rattle.ms_trace.specs.declared.trace.Command.{Command}
use Rattle.ms_trace.specs.declared.trace.Command.TheVariants.{Step as StepOf, Sync, Report}
use Rattle.ms_trace.specs.declared.trace.Line.TheInside.{Inside}
use Rattle.ms_trace.specs.Line.{Line}

abbrev pub command_in : Asks → Step → Command
command_in AsksStep step = StepOf step
command_in AsksSync step = Sync
command_in AsksReport step = Report

abbrev pub line_in : Inside → Line
line_in packed = record { number = packed.number; command = command_in packed.asks packed.step }

-- Where no step is asked, a purge stands in its place.
abbrev pub HasStep : Asks → Step → Type 0
HasStep AsksStep step = ⊤
HasStep AsksSync step = step ≡ Purge
HasStep AsksReport step = step ≡ Purge

abbrev pub asks_of : Command → Asks
asks_of (StepOf step) = AsksStep
asks_of Sync = AsksSync
asks_of Report = AsksReport

abbrev pub step_in : Command → Step
step_in (StepOf step) = step
step_in Sync = Purge
step_in Report = Purge

abbrev pub packed_of : Line → Inside
packed_of line = record { number = line.number; asks = asks_of line.command; step = step_in line.command }
