-- The one answer that is put has the report.
use Rattle.std.proofs.Common.{refl, subst}
use Rattle.std.proofs.lemmas.Result.{on_ok_weaker}
use Rattle.ms_trace.specs.declared.trace.Command.{Command}
use Rattle.ms_run.specs.Replay.{Reports}
use Rattle.ms_run.proofs.between.answer_between.Goals as goal

pub returns : goal.returns
returns g c = on_ok_weaker c.put.result (λ puts. (
  _,
  puts,
  (
    _,
    refl,
    c.in_ok-report.ensures.detailed,
    λ course taken. record {
      no_step = c.requires.no_step;
      number = c.number.ensures;
      done = refl;
      report = subst (λ (command : Command). Reports command course c.in_ok-report.report) c.command.ensures
          (c.in_ok-report.ensures.reports course taken);
    },
  ),
))
    c.put.ensures
