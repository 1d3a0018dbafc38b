-- A line of a trace.
use Rattle.std.specs.Prelude.{ℕ}
use Rattle.ms_trace.specs.declared.trace.Command.{Command}

-- A command and the number of its line.
pub record Line : Type 0 where
  pub number : ℕ
  pub command : Command
