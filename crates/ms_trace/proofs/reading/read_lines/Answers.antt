-- Each line is kept, or has the first fault.
use Rattle.std.proofs.Common.{◌≡◌, ◌+◌, ◌<◌, ◌++◌, [], ap, arith, length}
use Rattle.std.proofs.lemmas.Bool.Decides.{nat_tests}
use Rattle.std.proofs.lemmas.Result.{err_from_is_err_and}
use Rattle.ms_trace.specs.Grammar.{lines_of}
use Rattle.ms_trace.proofs.ReadingLemmas.{line_more, kept_number, blames_text, last_left, read_last, read_whole}
use Rattle.ms_trace.proofs.TraceLemmas.{numbers_rise}
use Rattle.ms_trace.proofs.reading.read_lines.Goals as goal

pub returns-in_err-rest-clause-faults : goal.returns-in_err-rest-clause-faults
returns-in_err-rest-clause-faults g c =
    let p = err_from_is_err_and c.from_residual.result c.from_residual.ensures.1 in
    rw (p.1, p.2)
    (blames_text c.args.most c.args.text.now c.in_err-rest.ensures.fault.line _ _ c.loop-rest.number c.loop-rest.lines.items _
    c.loop-rest.invariant.read
    (ap (λ lines. lines ++ lines_of c.cut_last.result.1.now) c.in_err-rest.ensures.fault.cut)
    c.in_err-rest.ensures.fault.blames)

pub loop-rest-preserved : goal.loop-rest-preserved
loop-rest-preserved g c =
    let kept = c.in_ok-rest.ensures.kept in
    record {
      read = line_more c.args.most c.args.text.now kept.line _ _ c.loop-rest.number c.loop-rest.lines.items _
          c.loop-rest.invariant.read (ap (λ lines. lines ++ lines_of c.cut_last.result.1.now) kept.cut) kept.keeps;
      few = kept_number c.args.most (c.loop-rest.number + 1) kept.line c.loop-rest.lines.items _ kept.keeps;
    }

pub returns-then-is_empty-clause-in_order : goal.returns-then-is_empty-clause-in_order
returns-then-is_empty-clause-in_order g c =
    let none : length c.loop-rest.rest.now ≡ 0 = grind (arith, nat_tests, c.is_empty.ensures, c.loop-rest-test.false) in
    let no_last : length c.cut_last.result.1.now ≡ 0 =
    grind (arith, nat_tests, c.is_empty-2.ensures, c.if-is_empty.true) in
    numbers_rise c.args.most 0 1 (lines_of c.args.text.now) c.loop-rest.lines.items (omega arith)
    (read_whole c.args.most c.args.text.now c.loop-rest.rest.now c.cut_last.result.1.now c.loop-rest.number c.loop-rest.lines.items
    c.loop-rest.invariant.read none no_last)

pub returns-in_err-keep-clause-faults : goal.returns-in_err-keep-clause-faults
returns-in_err-keep-clause-faults g c =
    let last = c.cut_last.result.1.now in
    let none : length c.loop-rest.rest.now ≡ 0 = grind (arith, nat_tests, c.is_empty.ensures, c.loop-rest-test.false) in
    let some : 0 < length last = grind (arith, nat_tests, c.is_empty-2.ensures, c.if-is_empty.false) in
    let p = err_from_is_err_and c.from_residual-in_err-keep.result c.from_residual-in_err-keep.ensures.1 in
    rw (p.1, p.2)
    (blames_text c.args.most c.args.text.now last _ [] c.loop-rest.number c.loop-rest.lines.items _ c.loop-rest.invariant.read
    (last_left c.loop-rest.rest.now last none (c.cut_last.ensures.last some)) c.in_err-keep.ensures.fault)

pub returns-clause-reads : goal.returns-clause-reads
returns-clause-reads g c =
    let last = c.cut_last.result.1.now in
    let none : length c.loop-rest.rest.now ≡ 0 = grind (arith, nat_tests, c.is_empty.ensures, c.loop-rest-test.false) in
    let some : 0 < length last = grind (arith, nat_tests, c.is_empty-2.ensures, c.if-is_empty.false) in
    read_last c.args.most c.args.text.now c.loop-rest.rest.now last c.loop-rest.number c.loop-rest.lines.items _
    c.loop-rest.invariant.read none (c.cut_last.ensures.last some) c.in_ok-keep.ensures.kept

pub returns-clause-in_order : goal.returns-clause-in_order
returns-clause-in_order g c =
    numbers_rise c.args.most 0 1 (lines_of c.args.text.now) c.keep.new.lines.items (omega arith) (returns-clause-reads g c)
