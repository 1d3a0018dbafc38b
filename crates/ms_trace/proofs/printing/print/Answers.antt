-- Each line prints the next part of the text, which reads as the trace.
use Rattle.std.proofs.Common.{◌≡◌, [], List, take, take_all, drop, drop_of_length-le, append-nil}
use Rattle.std.proofs.Common.{ap, arith, subst, sym, ◌∙◌}
use Rattle.std.proofs.lemmas.List.Elements.{All-more, recursion_from_All}
use Rattle.std.proofs.lemmas.Result.{IfOk-from_err}
use Rattle.std.specs.List.{All}
use Rattle.ms_trace.specs.declared.trace.Line.{Line}
use Rattle.ms_trace.specs.Grammar.{any_line}
use Rattle.ms_trace.specs.Spelling.{IsValid, text_from}
use Rattle.ms_trace.proofs.PrintingLemmas.{line_printed, rises_at, rises_on, printed_reads}
use Rattle.ms_trace.proofs.printing.print.Goals as goal

pub loop-line-preserved : goal.loop-line-preserved
loop-line-preserved g c =
    let items : List Line = c.as_slice-line-items.result.now in
    record {
      printed = rw (c.in_ok-print_line.ensures.printed, c.number-number.ensures, c.command.ensures, c.line-item.is)
          (line_printed items c.loop-line.line-index c.loop-line.last _ c.loop-line.text.items
          (text_from 1 items) c.loop-line-test.true c.loop-line.invariant.printed);
      rises = rw (c.number-number.ensures, c.line-item.is)
          (rises_on any_line items c.loop-line.line-index c.loop-line.last _ c.loop-line-test.true c.loop-line.invariant.rises);
      valid = All-more (λ (line : Line). IsValid line.command) items
          c.loop-line.line-index _ c.loop-line-test.true c.loop-line.invariant.valid
          (subst IsValid (c.command.ensures ∙ ap (λ (line : Line). line.command) c.line-item.is) c.print_line.ensures.valid);
    }

-- The line's number is above the last one.
pub overflow_sub-number : goal.overflow_sub-number
overflow_sub-number g c =
    omega (
      arith,
      c.number-number.ensures,
      rises_at any_line c.as_slice-line-items.result.now c.loop-line.line-index c.loop-line.last c.line-item.result
          c.loop-line-test.true c.line-item.is c.loop-line.invariant.rises,
    )

pub overflow_sub-number-in-loop-line : goal.overflow_sub-number-in-loop-line
overflow_sub-number-in-loop-line g c =
    omega (
      arith,
      c.number-number.ensures,
      rises_at any_line c.as_slice-line-items.result.now c.loop-line.line-index c.loop-line.last c.line-item.result
          c.loop-line-test.true c.line-item.is c.loop-line.invariant.rises,
    )

pub returns-in_err-print_line-clause-text : goal.returns-in_err-print_line-clause-text
returns-in_err-print_line-clause-text g c = IfOk-from_err c.from_residual.result _ c.from_residual.ensures.0

pub returns-in_err-print_line-clause-reads : goal.returns-in_err-print_line-clause-reads
returns-in_err-print_line-clause-reads g c = IfOk-from_err c.from_residual.result _ c.from_residual.ensures.0

pub returns-clause-text : goal.returns-clause-text
returns-clause-text g c =
    let items : List Line = c.as_slice-line-items.result.now in
    let none : drop c.loop-line.line-index items ≡ [] = drop_of_length-le items c.loop-line-test.false in
    sym (append-nil c.loop-line.text.items) ∙ rw none at c.loop-line.invariant.printed
    ∙ ap (λ (items : List Line). text_from 1 items) c.as_slice-line-items.ensures

pub returns-clause-reads : goal.returns-clause-reads
returns-clause-reads g c =
    let items : List Line = c.as_slice-line-items.result.now in
    let all : take c.loop-line.line-index items ≡ items =
    take_all c.loop-line.line-index items c.loop-line-test.false in
    let none : drop c.loop-line.line-index items ≡ [] = drop_of_length-le items c.loop-line-test.false in
    let text : c.loop-line.text.items ≡ text_from 1 items =
    sym (append-nil c.loop-line.text.items) ∙ rw none at c.loop-line.invariant.printed in
    let valid : All (λ (line : Line). IsValid line.command) items = rw all at c.loop-line.invariant.valid in
    λ most rises. rw text
    (rw (sym c.as_slice-line-items.ensures)
    (printed_reads most 0 items (recursion_from_All (λ (line : Line). IsValid line.command) items valid)
    (rw c.as_slice-line-items.ensures rises)))
