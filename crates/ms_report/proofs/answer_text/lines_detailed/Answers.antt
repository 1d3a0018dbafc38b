-- One more answer is told.
use Rattle.std.proofs.Common.{◌≡◌, ◌∙◌, ◌++◌, ◌∷◌, [], ℕ, List, ap, arith, length, subst, sym, take}
use Rattle.std.proofs.Math.Seq.{take-length}
use Rattle.std.proofs.lemmas.List.{take_more}
use Rattle.ms_answers.specs.declared.replies.Answer.{Answer}
use Rattle.ms_report.specs.AnswerText.{AnswerTextView, Tells, no_answer}
use Rattle.ms_report.specs.ReplyLines.{answers_text}
use Rattle.ms_report.proofs.ReplyLemmas.{tells_none}
use Rattle.ms_report.proofs.answer_text.lines_detailed.Goals as goal

pub loop-answer-init : goal.loop-answer-init
loop-answer-init c =
    subst (λ (text : AnswerTextView). Tells (no_answer c.args.addresses c.args.verbosity c.args.settings.now) text [])
    (sym c.new-text.ensures) (tells_none c.args.addresses c.args.verbosity c.args.settings.now)

pub loop-answer-preserved : goal.loop-answer-preserved
loop-answer-preserved c =
    let at = c.loop-answer.answer-index in
    let answers = c.args.replies.now.answers.items in
    subst (Tells (no_answer c.args.addresses c.args.verbosity c.args.settings.now) c.push.new.self)
    (ap (λ (a : Answer). take at answers ++ a ∷ []) (rw c.deref-answer-items.ensures.value at c.answer-item.is)
    ∙ sym (take_more answers at _ (rw c.deref-answer-items.ensures.value at c.loop-answer-test.true)))
    (c.in_ok-push.ensures.told _ (take at answers) c.loop-answer.invariant)

pub returns : goal.returns
returns c =
    let answers = c.args.replies.now.answers.items in
    let ends : c.loop-answer.answer-index ≡ length answers =
    (let past = c.loop-answer-test.false in
    omega (arith, past, c.loop-answer.auto.answer-index-end, ap length c.deref-answer-items.ensures.value)) in
    c.into_text.ensures
    ∙ c.loop-answer.invariant.text
    ∙ ap (λ (l : List Answer). answers_text c.args.addresses c.args.verbosity c.args.settings.now l)
    (ap (λ (n : ℕ). take n answers) ends ∙ take-length answers)
