-- The lines cut off so far read as the lines kept so far; what is left gets shorter.
use Rattle.std.proofs.Common.{◌≤◌, ◌++◌, length}
use Rattle.ms_trace.specs.Grammar.{lines_of}
use Rattle.ms_trace.proofs.ReadingLemmas.{IsRead}
use Rattle.ms_trace.proofs.reading.read_lines.Given as goal

abbrev pub invariant-loop-rest : goal.invariant-loop-rest
invariant-loop-rest g l = record {
  read : IsRead l.fn.most l.fn.text (lines_of l.rest ++ lines_of l.last) l.number l.lines.items;
  few : l.number ≤ l.fn.most;
}

abbrev pub decreases-loop-rest : goal.decreases-loop-rest
decreases-loop-rest g l = length l.rest
