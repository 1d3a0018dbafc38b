use Rattle.std.proofs.Common.{◌≡◌, ◌+◌, ◌∙◌, List, [], true, ap, arith, drop, drop_of_length-le, sym}
use Rattle.ms_trace.specs.Grammar.{any_line}
use Rattle.ms_trace.specs.declared.trace.Line.{Line}
use Rattle.ms_trace.specs.Spelling.{rises_above}
use Rattle.ms_trace.proofs.PrintingLemmas.{rises_past, rises_wider}
use Rattle.ms_trace.proofs.trace.Trace.rises_within.Goals as goal

pub loop-line-preserved : goal.loop-line-preserved
loop-line-preserved c =
    let number = ap (λ (line : Line). line.number) (sym c.line-item.is) ∙ sym c.number-number.ensures in
    c.loop-line.invariant
    ∙ rises_past c.args.most c.as_slice-line-items.result.now c.loop-line.line-index c.loop-line.last _ c.loop-line-test.true
    (omega (arith, number, c.if-number-last.false)) (omega (arith, number, c.if-number-most.false))
    ∙ ap (λ n. rises_above c.args.most n (drop (c.loop-line.line-index + 1) c.as_slice-line-items.result.now)) number

-- What rises within the limit rises within any.
pub returns-clause-printable : goal.returns-clause-printable
returns-clause-printable c = λ holds.
    let items : List Line = c.as_slice-line-items.result.now in
    let none : drop c.loop-line.line-index items ≡ [] = drop_of_length-le items c.loop-line-test.false in
    let all : rises_above c.args.most 0 items ≡ true =
    c.loop-line.invariant ∙ ap (λ rest. rises_above c.args.most c.loop-line.last rest) none in
    rw (sym c.as_slice-line-items.ensures)
    (rises_wider c.args.most any_line 0 items (omega (arith, c.ranges.most.fits)) all)
