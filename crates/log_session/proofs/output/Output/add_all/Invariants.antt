-- The lines so far go out.
use Rattle.std.proofs.Common.{ℕ, List, Option, ◌++◌, take}
use Rattle.ms_trace.specs.declared.trace.Command.{Command}
use Rattle.log_session.specs.Trace.{WritesLines, commands_of}
use Rattle.log_session.proofs.output.Output.add_all.Given as goal

abbrev pub invariant-loop-at : goal.invariant-loop-at
invariant-loop-at g l =
    (start : Option (List ℕ)) (commands : List Command)
    → WritesLines start (g.W.Write.contents l.fn.output) l.fn.self.text.items commands
    → WritesLines start (g.W.Write.contents l.output) l.self.text.items (commands ++ commands_of (take l.at l.lines))
