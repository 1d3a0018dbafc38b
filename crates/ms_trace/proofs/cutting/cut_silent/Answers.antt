-- A comment ends where the search near finds a newline.
use Rattle.std.proofs.Common.{◌+◌, arith}
use Rattle.std.proofs.lemmas.List.{take_rest}
use Rattle.ms_trace.proofs.KeepingLemmas.{comment_first}
use Rattle.ms_trace.proofs.cutting.cut_silent.Goals as goal

pub returns : goal.returns
returns c =
    rw (take_rest c.args.text.now (c.in_ok-at.at + 1))
    (comment_first c.args.text.now c.min.result c.in_ok-at.at (omega (arith, c.min.ensures))
    (omega (arith, c.if-text-ne35.false)) c.in_ok-at.ensures)
