use Rattle.std.proofs.Common.{◌≡◌, rules, Some, None, codes, refl}
use Rattle.clap.specs.Words.{first_of, found_of, rows_of}
use Rattle.ms_session.proofs.OptionLemmas.{form_given, form_unasked}
use Rattle.ms_session.proofs.options.form_in.Goals as goal

pub returns-in-Some : goal.returns-in-Some
returns-in-Some c =
    let rows = rows_of (found_of c.args.matches.now) in
    let given : first_of (codes "format") rows ≡ Some c.in-Some.word.now = search rules in
    form_given rows c.in-Some.word.now c.form_named.result given
    c.form_named.ensures.text c.form_named.ensures.html c.form_named.ensures.json

pub returns-in-None : goal.returns-in-None
returns-in-None c =
    let rows = rows_of (found_of c.args.matches.now) in
    let absent : first_of (codes "format") rows ≡ None = search rules in
    form_unasked rows _ absent refl
