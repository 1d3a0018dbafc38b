-- The text of answers that come one by one (this project's choice).
use Rattle.std.specs.Prelude.{◌≡◌, ℕ, Bool, List, []}
use Rattle.ms_base.specs.declared.settings.Settings.{Settings}
use Rattle.ms_answers.specs.declared.verbosity.Verbosity.{Verbosity}
use Rattle.ms_answers.specs.declared.replies.Answer.{Answer}
use Rattle.ms_report.specs.Refused.{refusals_of}
use Rattle.ms_report.specs.ReplyLines.{answers_text, replies_in}
use Rattle.ms_report.specs.declared.refused.Refusals.{Refusals}

-- What there is of it: the bytes so far, the refusals so far, and what is asked for.
pub record AnswerTextView : Type 0 where
  pub text : List ℕ
  pub refusals : Refusals
  pub addresses : Bool
  pub verbosity : Verbosity
  pub settings : Settings

-- The text of no answer.
abbrev pub no_answer : Bool → Verbosity → Settings → AnswerTextView
no_answer addresses verbosity settings = record {
  text = [];
  refusals = refusals_of [];
  addresses = addresses;
  verbosity = verbosity;
  settings = settings;
}

-- The text tells these answers and no others, as it was asked for at first.
pub record Tells (first now : AnswerTextView) (answers : List Answer) : Type 0 where
  pub text : now.text ≡ answers_text first.addresses first.verbosity first.settings answers
  pub refusals : now.refusals ≡ refusals_of (replies_in answers)
  pub addresses : now.addresses ≡ first.addresses
  pub verbosity : now.verbosity ≡ first.verbosity
  pub settings : now.settings ≡ first.settings
