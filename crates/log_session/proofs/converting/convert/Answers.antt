-- A log that is heard to its end is of JDK 17, and its trace goes out.
use Rattle.std.specs.Prelude.{IfSome}
use Rattle.log_session.specs.Release.{LogIsOfJdk17}
use Rattle.log_session.proofs.ReleaseLemmas.{converts, log_is, on_success}
use Rattle.log_session.proofs.TraceLemmas.{ok_map}
use Rattle.log_session.proofs.converting.convert.Goals as goal

pub returns-clause-release : goal.returns-clause-release
returns-clause-release g c =
    on_success c.finish.result (IfSome (g.R.Read.remaining c.args.input.now) LogIsOfJdk17)
    (log_is _ _ (g.R.Read.remaining c.args.input.now) c.in_ok-lines.ensures)

pub returns-clause-trace : goal.returns-clause-trace
returns-clause-trace g c =
    ok_map c.finish.result _ _
    (converts c.args.options.now _ _ (g.R.Read.remaining c.args.input.now) (g.W.Write.contents c.args.output.now) _ _
    c.in_ok-conversion.ensures c.in_ok-lines.ensures)
    c.finish.ensures
