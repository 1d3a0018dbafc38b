use Rattle.std.proofs.Common.{subst, arith, List, ℕ}
use Rattle.std.specs.Prelude.{string_bytes}
use Rattle.std.proofs.lemmas.Result.{err_from_is_err_and}
use Rattle.ms_trace.specs.Faults.{BlamesText}
use Rattle.ms_trace.specs.Spelling.{ReadsAs}
use Rattle.ms_session.specs.Session.{IsWhole}
use Rattle.ms_session.specs.declared.asked.Form.TheVariants.{Text, Html, Json}
use Rattle.ms_session.proofs.FormLemmas.{answers_whole, any_page, few_lines, pageless_blames, pageless_settles}
use Rattle.ms_session.proofs.InputLemmas.{blames_whole, is_whole}
use Rattle.ms_session.proofs.answering.answer_to.Goals as goal
use Rattle.ms_session.proofs.answering.answer_to.Goals.{After-emptied-room}
use Rattle.ms_session.proofs.answering.answer_to.Given.{Over}

pub returns-in_err-trace-clause-err : goal.returns-in_err-trace-clause-err
returns-in_err-trace-clause-err g c =
    let told = err_from_is_err_and c.from_residual-in_err-trace.result c.from_residual-in_err-trace.ensures.1 in
    let length_is = c.in_ok-text.text.ok.0 in
    let blames =
    subst (λ (bytes : List ℕ). BlamesText c.args.options.now.max_lines bytes c.in_err-trace.field-0.0) c.deref.ensures.value
    c.in_err-trace.ensures.faults in
    rw (told.1, told.2) (blames_whole c.args.options.now.max_lines _ _ c.in_ok-text.text.items c.in_err-trace.field-0.0 (record {
      beginning = c.in_ok-text.ensures.bytes;
      most = omega (arith, length_is, c.most_bytes.ensures, c.in_ok-text.ensures.most);
      whole = λ short. c.in_ok-text.ensures.whole (omega (arith, length_is, c.most_bytes.ensures, short));
    }) blames)

-- What was read reads as the trace.
reads : (g : Over) (c : After-emptied-room g) → ReadsAs c.args.options.now.max_lines c.in_ok-text.text.items c.in_ok-trace.trace
reads g c =
    subst (λ (bytes : List ℕ). ReadsAs c.args.options.now.max_lines bytes c.in_ok-trace.trace) c.deref.ensures.value
    c.in_ok-trace.ensures.reads

-- It is all of the input.
whole : (g : Over) (c : After-emptied-room g)
    → IsWhole (g.R.Read.remaining c.args.input.now) (g.R.Read.remaining c.read_text.new.input) c.in_ok-text.text.items
whole g c =
    let length_is = c.in_ok-text.text.ok.0 in
    is_whole c.args.options.now.max_lines _ _ c.in_ok-text.text.items c.in_ok-trace.trace (record {
      beginning = c.in_ok-text.ensures.bytes;
      most = omega (arith, length_is, c.most_bytes.ensures, c.in_ok-text.ensures.most);
      whole = λ short. c.in_ok-text.ensures.whole (omega (arith, length_is, c.most_bytes.ensures, short));
    }) (reads g c)

pub document_of-requires : goal.document_of-requires
document_of-requires g c =
    let few = few_lines c.args.options.now.max_lines c.in_ok-trace.trace.lines c.in_ok-trace.ensures.in_order in
    omega (arith, few, c.args.options.now.lines_few)

pub returns-in-Text-clause-ok : goal.returns-in-Text-clause-ok
returns-in-Text-clause-ok g c =
    let before = (goal.at.returns-in-Text-clause-ok g c).After-emptied-room in
    answers_whole string_bytes c.args.options.now Text _ _ c.in_ok-text.text.items c.in_ok-trace.trace c.text_of.result
    c.in-Text.is (whole g before) (reads g before) c.text_of.ensures.ok

pub returns-in-Text-clause-err : goal.returns-in-Text-clause-err
returns-in-Text-clause-err g c =
    pageless_blames c.args.options.now.max_lines (g.R.Read.remaining c.args.input.now) c.text_of.result c.text_of.ensures.err

pub returns-in-Text-clause-settled : goal.returns-in-Text-clause-settled
returns-in-Text-clause-settled g c = pageless_settles c.text_of.result c.text_of.ensures.err

pub page_of-requires : goal.page_of-requires
page_of-requires g c =
    let few = few_lines c.args.options.now.max_lines c.in_ok-trace.trace.lines c.in_ok-trace.ensures.in_order in
    omega (arith, few, c.args.options.now.lines_few)

pub returns-in-Html-clause-ok : goal.returns-in-Html-clause-ok
returns-in-Html-clause-ok g c =
    let before = (goal.at.returns-in-Html-clause-ok g c).After-emptied-room in
    answers_whole string_bytes c.args.options.now Html _ _ c.in_ok-text.text.items c.in_ok-trace.trace c.page_of.result
    c.in-Html.is (whole g before) (reads g before)
    (any_page string_bytes c.args.options.now c.in_ok-trace.trace c.page_of.result)

pub returns-in-Html-clause-err : goal.returns-in-Html-clause-err
returns-in-Html-clause-err g c =
    pageless_blames c.args.options.now.max_lines (g.R.Read.remaining c.args.input.now) c.page_of.result c.page_of.ensures.err

pub returns-in-Html-clause-settled : goal.returns-in-Html-clause-settled
returns-in-Html-clause-settled g c = pageless_settles c.page_of.result c.page_of.ensures.err

pub returns-clause-ok : goal.returns-clause-ok
returns-clause-ok g c =
    let before = (goal.at.returns-clause-ok g c).After-emptied-room in
    answers_whole string_bytes c.args.options.now Json _ _ c.in_ok-text.text.items c.in_ok-trace.trace c.document_of.result
    c.in-Json.is (whole g before) (reads g before) c.document_of.ensures.ok

pub returns-clause-err : goal.returns-clause-err
returns-clause-err g c =
    pageless_blames c.args.options.now.max_lines (g.R.Read.remaining c.args.input.now) c.document_of.result
    c.document_of.ensures.err

pub returns-clause-settled : goal.returns-clause-settled
returns-clause-settled g c = pageless_settles c.document_of.result c.document_of.ensures.err
