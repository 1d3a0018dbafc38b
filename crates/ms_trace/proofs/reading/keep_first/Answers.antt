-- A line that spells a command adds it, a silent one adds nothing, and any other is cut off and
-- kept, or has its fault.
use Rattle.std.proofs.Common.{◌≡◌, ℕ, List, Option}
use Rattle.std.proofs.lemmas.Result.{err_from_is_err_and}
use Rattle.std.specs.Borrow.{Bor}
use Rattle.ms_trace.specs.Grammar.{lines_of}
use Rattle.ms_trace.proofs.KeepingLemmas.{silent_first, spelled_first, spelled_blames, rest_is, shorter_after}
use Rattle.ms_trace.proofs.ReadingLemmas.{lines_of-cut, text_after}
use Rattle.ms_trace.proofs.reading.keep_first.Goals as goal

pub returns-in_err-keep-clause-fault : goal.returns-in_err-keep-clause-fault
returns-in_err-keep-clause-fault g c =
    let p = err_from_is_err_and c.from_residual-in_err-keep.result c.from_residual-in_err-keep.ensures.1 in
    rw (p.1, p.2)
    (record {
      line = c.cut_line.result.0.now;
      after = lines_of (text_after c.cut_line.result.1);
      cut = lines_of-cut c.args.text.now c.cut_line.result.0.now c.cut_line.result.1 c.requires c.cut_line.ensures.parts;
      blames = c.in_err-keep.ensures.fault;
    })

pub returns-3-clause-kept : goal.returns-3-clause-kept
returns-3-clause-kept g c =
    let after : Option (Bor (List ℕ)) = c.cut_line.result.1 in
    let left : c.unwrap_or.result.now ≡ text_after after =
    rw c.unwrap_or.ensures (rest_is after c.as_slice.result c.as_slice.ensures) in
    record {
      line = c.cut_line.result.0.now;
      cut = rw left (lines_of-cut c.args.text.now c.cut_line.result.0.now after c.requires c.cut_line.ensures.parts);
      keeps = c.in_ok-keep.ensures.kept;
      shorter = rw left (shorter_after c.args.text.now after c.requires c.cut_line.ensures.shorter);
    }

pub returns-clause-kept : goal.returns-clause-kept
returns-clause-kept g c =
    spelled_first c.args.most c.args.number c.args.text.now c.in-Some.rest.now c.in-Some.command c.args.lines.now.items _
    c.if-number-most.true c.in-Some.ensures c.in_ok-add.ensures.added

pub returns-2-clause-kept : goal.returns-2-clause-kept
returns-2-clause-kept g c =
    silent_first c.args.most c.args.number c.args.text.now c.in-Some-cut_silent.rest.now c.args.lines.now.items
    c.if-number-most-2.true c.in-Some-cut_silent.ensures

pub returns-in_err-add-clause-fault : goal.returns-in_err-add-clause-fault
returns-in_err-add-clause-fault g c =
    let p = err_from_is_err_and c.from_residual.result c.from_residual.ensures.1 in
    rw (p.1, p.2)
    (spelled_blames c.args.most c.args.number c.args.text.now c.in-Some.rest.now c.in-Some.command _ c.in-Some.ensures
    c.in_err-add.ensures.fault)
