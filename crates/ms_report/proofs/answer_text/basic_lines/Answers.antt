use Rattle.std.proofs.Common.{◌∙◌}
use Rattle.std.proofs.lemmas.Result.{IfOk-weaker}
use Rattle.ms_report.proofs.ReplyLemmas.{basic_alike}
use Rattle.ms_report.proofs.answer_text.basic_lines.Goals as goal

pub returns : goal.returns
returns c = IfOk-weaker c.lines_detailed.result _ _ (λ text is any.
    is ∙ basic_alike c.args.addresses c.args.settings.now any c.args.replies.now.answers.items) c.lines_detailed.ensures
