use Rattle.std.proofs.Common.{[], ◌∙◌, subst, sym}
use Rattle.ms_report.specs.AnswerText.{AnswerTextView, Tells, no_answer}
use Rattle.ms_report.proofs.ReplyLemmas.{tells_none}
use Rattle.ms_session.proofs.SessionLemmas.{run_outputs}
use Rattle.ms_session.proofs.answering.text_of.Goals as goal

pub returns-clause-ok : goal.returns-clause-ok
returns-clause-ok g c =
    let asked = c.args.options.now in
    let told = c.in_ok-replay_into.ensures.answers in
    let tells = told.1 (no_answer asked.addresses asked.verbosity asked.settings) []
    (subst (λ (text : AnswerTextView). Tells (no_answer asked.addresses asked.verbosity asked.settings) text [])
    (sym c.new-answers.ensures) (tells_none asked.addresses asked.verbosity asked.settings)) in
    let text = c.into_text-text.ensures ∙ tells.text in
    let adds = c.in_ok-push_names.ensures in
    record {
      answers = told.0;
      own = told.2.own;
      detailed = told.2.detailed;
      text = _;
      text_is = text;
      names = adds.part;
      unnamed = λ none. adds.none (c.as_slice-2.ensures.value ∙ c.in_ok-named.ensures.none none);
      output_is = adds.added;
      run = run_outputs _ asked _ _ _ _ text told.2.detailed told.2.run;
    }
