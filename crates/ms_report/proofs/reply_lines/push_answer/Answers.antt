use Rattle.std.proofs.Common.{ℕ, List, ◌++◌, ◌∙◌, ap, append_assoc, string_bytes}
use Rattle.ms_base.specs.ReplyText.{reply_line}
use Rattle.ms_answers.specs.Details.{told_in}
use Rattle.ms_answers.specs.Sums.{sums_in}
use Rattle.ms_report.specs.Detailed.{detailed_text}
use Rattle.ms_report.proofs.reply_lines.push_answer.Goals as goal

pub returns-in_ok-push_detailed : goal.returns-in_ok-push_detailed
returns-in_ok-push_detailed c =
    let report : List ℕ =
    detailed_text c.args.verbosity c.args.settings.now c.args.refusals.now (sums_in c.deref.result.now)
    (told_in c.deref.result.now) c.deref.result.now.peaks in
    rw (c.in-Some.is, ← c.deref.ensures)
    (c.in_ok-push_detailed.ensures
    ∙ ap (λ (t : List ℕ). t ++ report) c.in_ok-push_reply_line.ensures
    ∙ append_assoc (string_bytes c.args.text.now)
    (reply_line c.args.addresses c.args.answer.now.line c.args.answer.now.reply) report)
