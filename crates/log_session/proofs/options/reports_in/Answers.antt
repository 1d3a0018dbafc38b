use Rattle.std.proofs.Common.{◌≡◌, rules, Some, None, codes, refl}
use Rattle.clap.specs.Words.{first_of, found_of, rows_of}
use Rattle.log_session.proofs.OptionLemmas.{reports_given, reports_unasked}
use Rattle.log_session.proofs.options.reports_in.Goals as goal

pub returns-in-Some : goal.returns-in-Some
returns-in-Some c =
    let rows = rows_of (found_of c.args.matches.now) in
    let given : first_of (codes "reports") rows ≡ Some c.in-Some.word.now = search rules in
    reports_given rows c.in-Some.word.now c.reports_named.result given
    c.reports_named.ensures.at_end c.reports_named.ensures.gc c.reports_named.ensures.none

pub returns-in-None : goal.returns-in-None
returns-in-None c =
    let rows = rows_of (found_of c.args.matches.now) in
    let absent : first_of (codes "reports") rows ≡ None = search rules in
    reports_unasked rows _ absent refl
