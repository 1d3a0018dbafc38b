use Rattle.std.proofs.Common.{◌≡◌, ◌∙◌, ap}
use Rattle.std.proofs.lemmas.Result.{IfOk-at_ok, IfOk-weaker}
use Rattle.clap.specs.Words.{App, app_of, rule_of, with_rule}
use Rattle.command_line.proofs.describing.with.Goals as goal

pub returns-in-Ok : goal.returns-in-Ok
returns-in-Ok c = λ app before own. IfOk-weaker c.arg.result _ _ (λ after adds. adds.shape own
    ∙ ap (λ (a : App). with_rule a (rule_of c.args.option))
    (IfOk-at_ok (λ command. app_of command ≡ app) c.in-Ok.is before)) c.arg.ensures
