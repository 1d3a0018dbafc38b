use Rattle.std.proofs.lemmas.List.Elements.{recursion_from_All}
use Rattle.ms_trace.specs.declared.trace.Line.{Line}
use Rattle.ms_trace.specs.Spelling.{IsValid}
use Rattle.ms_trace.proofs.PrintingLemmas.{printed_reads}
use Rattle.ms_trace.proofs.laws.printed_reads.Goals as goal

pub returns : goal.returns
returns c =
    λ most trace valid rises. printed_reads most 0 trace.lines
    (recursion_from_All (λ (line : Line). IsValid line.command) trace.lines valid) rises
