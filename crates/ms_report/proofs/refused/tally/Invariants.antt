use Rattle.std.proofs.Common.{◌≡◌, take}
use Rattle.ms_report.specs.Refused.{refusals_of}
use Rattle.ms_report.specs.ReplyLines.{replies_in}
use Rattle.ms_report.proofs.refused.tally.Given as goal

-- the refusals among the first answers
abbrev pub invariant-loop-answer : goal.invariant-loop-answer
invariant-loop-answer l = l.refusals ≡ refusals_of (replies_in (take l.answer-index l.answers))
