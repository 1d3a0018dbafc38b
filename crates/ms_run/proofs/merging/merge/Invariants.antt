use Rattle.std.proofs.Common.{[], List}
use Rattle.ms_answers.specs.declared.replies.Answer.{Answer}
use Rattle.ms_run.specs.Sink.{PutsAll}
use Rattle.ms_run.specs.Turn.{position_in}
use Rattle.ms_run.proofs.sharing.MergeLemmas.{SoFar}
use Rattle.ms_run.proofs.merging.merge.Given as goal

-- The lines up to the index are merged, and their answers are put.
abbrev pub invariant-loop-line : goal.invariant-loop-line
invariant-loop-line g l =
    (added : List Answer)
    × SoFar (position_in l.turn) l.lines l.shares.items [] l.line-index added l.taken.items
    × PutsAll g.S.AnswerSink.took added l.fn.sink l.sink
