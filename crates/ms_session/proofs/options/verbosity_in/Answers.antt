use Rattle.std.proofs.Common.{◌≡◌, rules, Some, None, codes, refl}
use Rattle.clap.specs.Words.{first_of, found_of, rows_of}
use Rattle.ms_session.proofs.OptionLemmas.{verbosity_given, verbosity_unasked}
use Rattle.ms_session.proofs.options.verbosity_in.Goals as goal

pub returns-in-Some : goal.returns-in-Some
returns-in-Some c =
    let rows = rows_of (found_of c.args.matches.now) in
    let given : first_of (codes "report") rows ≡ Some c.in-Some.word.now = search rules in
    verbosity_given rows c.in-Some.word.now c.verbosity_named.result given
    c.verbosity_named.ensures.basic c.verbosity_named.ensures.full

pub returns-in-None : goal.returns-in-None
returns-in-None c =
    let rows = rows_of (found_of c.args.matches.now) in
    let absent : first_of (codes "report") rows ≡ None = search rules in
    verbosity_unasked rows _ absent refl
