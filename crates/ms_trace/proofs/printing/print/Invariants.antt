-- What is printed and the text of the lines left make up the whole text; the lines left rise.
use Rattle.std.proofs.Common.{◌≡◌, ◌+◌, ◌++◌, true, take, drop}
use Rattle.std.specs.List.{All}
use Rattle.ms_trace.specs.declared.trace.Line.{Line}
use Rattle.ms_trace.specs.Grammar.{any_line}
use Rattle.ms_trace.specs.Spelling.{IsValid, rises_above, text_from}
use Rattle.ms_trace.proofs.printing.print.Given as goal

abbrev pub invariant-loop-line : goal.invariant-loop-line
invariant-loop-line g l = record {
  printed : l.text.items ++ text_from (l.last + 1) (drop l.line-index l.line-items) ≡ text_from 1 l.line-items;
  rises : rises_above any_line l.last (drop l.line-index l.line-items) ≡ true;
  valid : All (λ (line : Line). IsValid line.command) (take l.line-index l.line-items);
}
