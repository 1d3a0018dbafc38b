use Rattle.std.proofs.Common.{◌≡◌, rules, Some, None, codes, refl}
use Rattle.clap.specs.Words.{first_of, found_of, rows_of}
use Rattle.ms_session.proofs.OptionLemmas.{policy_given, policy_unasked}
use Rattle.ms_session.proofs.options.policy_in.Goals as goal

pub returns-in-Some : goal.returns-in-Some
returns-in-Some c =
    let rows = rows_of (found_of c.args.matches.now) in
    let given : first_of (codes "policy") rows ≡ Some c.in-Some.word.now = search rules in
    policy_given rows c.in-Some.word.now c.policy_named.result given
    c.policy_named.ensures.balanced c.policy_named.ensures.aggressive c.policy_named.ensures.none

pub returns-in-None : goal.returns-in-None
returns-in-None c =
    let rows = rows_of (found_of c.args.matches.now) in
    let absent : first_of (codes "policy") rows ≡ None = search rules in
    policy_unasked rows _ absent refl
