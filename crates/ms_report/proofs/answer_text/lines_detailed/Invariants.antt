use Rattle.std.proofs.Common.{take}
use Rattle.ms_report.specs.AnswerText.{Tells, no_answer}
use Rattle.ms_report.proofs.answer_text.lines_detailed.Given as goal

-- the text tells the first answers
abbrev pub invariant-loop-answer : goal.invariant-loop-answer
invariant-loop-answer l =
    Tells (no_answer l.addresses l.fn.verbosity l.settings) l.text (take l.answer-index l.replies.answers.items)
