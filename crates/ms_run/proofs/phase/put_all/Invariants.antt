use Rattle.std.proofs.Common.{◌≡◌, ◌++◌, List}
use Rattle.ms_answers.specs.declared.replies.Answer.{Answer}
use Rattle.ms_run.specs.Sink.{PutsAll}
use Rattle.ms_run.proofs.phase.put_all.Given as goal

-- the first answers are put, and the others are left
abbrev pub invariant-loop-answer : goal.invariant-loop-answer
invariant-loop-answer g l =
    (done : List Answer) × (l.fn.answers.items ≡ done ++ l.answer-iterator.rest.items)
    × PutsAll g.S.AnswerSink.took done l.fn.sink l.sink
