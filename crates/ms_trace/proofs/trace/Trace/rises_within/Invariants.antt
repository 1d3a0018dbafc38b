-- The whole trace rises exactly where the lines left rise above the last one.
use Rattle.std.proofs.Common.{◌≡◌, drop}
use Rattle.ms_trace.specs.Spelling.{rises_above}
use Rattle.ms_trace.proofs.trace.Trace.rises_within.Given as goal

abbrev pub invariant-loop-line : goal.invariant-loop-line
invariant-loop-line l = rises_above l.fn.most 0 l.line-items ≡ rises_above l.fn.most l.last (drop l.line-index l.line-items)
