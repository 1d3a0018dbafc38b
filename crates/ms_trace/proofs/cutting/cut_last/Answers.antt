use Rattle.std.proofs.Common.{◌+◌}
use Rattle.ms_trace.proofs.EndLemmas.{lines_of-cut_after, lines_of-last}
use Rattle.ms_trace.proofs.cutting.cut_last.Goals as goal

pub returns-in-None-clause-last : goal.returns-in-None-clause-last
returns-in-None-clause-last c =
    rw c.split_at.ensures.back
    (lines_of-last c.args.text.now 0 (λ k low high newline. c.in-None.ensures k low high newline))

pub returns-in-Some-clause-lines : goal.returns-in-Some-clause-lines
returns-in-Some-clause-lines c =
    let found = c.in-Some.ensures in
    rw c.split_at-in-Some.ensures.front
    (rw c.split_at-in-Some.ensures.back (lines_of-cut_after c.args.text.now c.in-Some.at found.0.high found.1))

pub returns-in-Some-clause-last : goal.returns-in-Some-clause-last
returns-in-Some-clause-last c =
    let found = c.in-Some.ensures in
    rw c.split_at-in-Some.ensures.back (lines_of-last c.args.text.now (c.in-Some.at + 1) found.0.after)
