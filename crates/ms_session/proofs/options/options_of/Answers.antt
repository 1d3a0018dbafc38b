use Rattle.std.proofs.Common.{rules, inl}
use Rattle.std.proofs.lemmas.Result.{err_from_is_err_and}
use Rattle.clap.specs.Words.{app_of, found_of, rows_of}
use Rattle.ms_session.proofs.CommandLineLemmas.{is_matched, is_judged, default_is_asked, chosen_is_asked}
use Rattle.ms_session.proofs.CommandLineLemmas.{alone_is_no_help, chosen_asks_too_much}
use Rattle.ms_session.proofs.options.options_of.Goals as goal

pub returns-then-words-le1-clause-asked : goal.returns-then-words-le1-clause-asked
returns-then-words-le1-clause-asked g c =
    default_is_asked g.S.AsStr.text c.args.words.now _ c.if-words-le1.true (search rules) (search rules)

pub returns-in_err-matches-clause-told : goal.returns-in_err-matches-clause-told
returns-in_err-matches-clause-told g c =
    let back = err_from_is_err_and c.from_residual.result c.from_residual.ensures.1 in
    rw (back.1, back.2) (λ told. record {
      app = app_of c.in-Ok.command;
      line = c.in-Ok.ensures;
      ask = c.in_err-matches.ensures.told (is_judged (app_of c.in-Ok.command) c.in-Ok.ensures) told;
    })

pub returns-clause-asked : goal.returns-clause-asked
returns-clause-asked g c =
    chosen_is_asked (app_of c.in-Ok.command) _ (rows_of (found_of c.in_ok-matches.matches)) c.chosen.result
    c.in-Ok.ensures
    (c.in_ok-matches.ensures.found (is_matched (app_of c.in-Ok.command) c.in-Ok.ensures))
    c.chosen.ensures.allowed c.chosen.ensures.read

pub returns-clause-told : goal.returns-clause-told
returns-clause-told g c = alone_is_no_help _ c.chosen.result c.chosen.ensures.refused

pub returns-in_err-matches-clause-usage : goal.returns-in_err-matches-clause-usage
returns-in_err-matches-clause-usage g c =
    let back = err_from_is_err_and c.from_residual.result c.from_residual.ensures.1 in
    rw (back.1, back.2) (λ usage. inl (record {
      app = app_of c.in-Ok.command;
      line = c.in-Ok.ensures;
      refused = c.in_err-matches.ensures.usage usage;
    }))

pub returns-clause-usage : goal.returns-clause-usage
returns-clause-usage g c =
    chosen_asks_too_much (app_of c.in-Ok.command) _ (rows_of (found_of c.in_ok-matches.matches)) c.chosen.result
    c.in-Ok.ensures
    (c.in_ok-matches.ensures.found (is_matched (app_of c.in-Ok.command) c.in-Ok.ensures)) c.chosen.ensures.many
