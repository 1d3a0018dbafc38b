-- The text of the answers to a trace (this project's choice).
use Rattle.std.specs.Prelude.{ℕ, Bool, List, [], ◌∷◌, ◌++◌, Option, Some, None, Box, map}
use Rattle.std.specs.declared.alloc.Global.{Global}
use Rattle.ms_base.specs.declared.step.Reply.{Reply}
use Rattle.ms_base.specs.ReplyText.{reply_line}
use Rattle.ms_answers.specs.declared.totals.Totals.{Totals}
use Rattle.ms_answers.specs.declared.replies.Answer.{Answer}
use Rattle.ms_answers.specs.Sums.{sums_in}
use Rattle.ms_answers.specs.Details.{told_in}
use Rattle.ms_base.specs.declared.settings.Settings.{Settings}
use Rattle.ms_answers.specs.declared.verbosity.Verbosity.{Verbosity}
use Rattle.ms_report.specs.Detailed.{detailed_text}
use Rattle.ms_report.specs.Refused.{refusals_of}
use Rattle.ms_report.specs.declared.refused.Refusals.{Refusals}

-- The replies of answers.
abbrev pub replies_in : List Answer → List Reply
replies_in answers = map (λ (answer : Answer). answer.reply) answers

-- What follows a reply: the report where one was asked for, with the refusals so far.
abbrev pub report_after : Verbosity → Settings → Refusals → Option (Box Totals Global) → List ℕ
report_after verbosity settings refusals None = []
report_after verbosity settings refusals (Some totals) =
    detailed_text verbosity settings refusals (sums_in totals.value) (told_in totals.value) totals.value.peaks

-- An answer's line, a report after it.
abbrev pub answer_text : Bool → Verbosity → Settings → Refusals → Answer → List ℕ
answer_text addresses verbosity settings refusals answer =
    reply_line addresses answer.line answer.reply ++ report_after verbosity settings refusals answer.report

-- The lines of answers that come after replies; each report has the refusals among those before it.
abbrev pub later_text : Bool → Verbosity → Settings → List Reply → List Answer → List ℕ
later_text addresses verbosity settings before [] = []
later_text addresses verbosity settings before (answer ∷ answers) =
    answer_text addresses verbosity settings (refusals_of before) answer
    ++ later_text addresses verbosity settings (before ++ answer.reply ∷ []) answers

-- The lines of answers.
abbrev pub answers_text : Bool → Verbosity → Settings → List Answer → List ℕ
answers_text addresses verbosity settings answers = later_text addresses verbosity settings [] answers
