-- A new text has no bytes.
use Rattle.std.proofs.Common.{rules}
use Rattle.ms_report.proofs.answer_text.AnswerText.new.Goals as goal

pub returns : goal.returns
returns c = search rules
