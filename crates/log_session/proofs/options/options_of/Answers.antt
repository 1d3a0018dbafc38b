use Rattle.std.proofs.Common.{rules}
use Rattle.std.proofs.lemmas.Result.{err_from_is_err_and}
use Rattle.clap.specs.Words.{app_of}
use Rattle.log_session.proofs.CommandLineLemmas.{is_judged, default_is_asked}
use Rattle.log_session.proofs.options.options_of.Goals as goal

pub returns-then-words-le1-clause-asked : goal.returns-then-words-le1-clause-asked
returns-then-words-le1-clause-asked g c =
    default_is_asked g.S.AsStr.text c.args.words.now _ c.if-words-le1.true (search rules)

pub returns-in_err-matches-clause-told : goal.returns-in_err-matches-clause-told
returns-in_err-matches-clause-told g c =
    let back = err_from_is_err_and c.from_residual.result c.from_residual.ensures.1 in
    rw (back.1, back.2) (λ told. record {
      app = app_of c.in-Ok.command;
      line = c.in-Ok.ensures;
      ask = c.in_err-matches.ensures.told (is_judged (app_of c.in-Ok.command) c.in-Ok.ensures) told;
    })

pub returns-in_err-matches-clause-usage : goal.returns-in_err-matches-clause-usage
returns-in_err-matches-clause-usage g c =
    let back = err_from_is_err_and c.from_residual.result c.from_residual.ensures.1 in
    rw (back.1, back.2) (λ usage. record {
      app = app_of c.in-Ok.command;
      line = c.in-Ok.ensures;
      refused = c.in_err-matches.ensures.usage usage;
    })
