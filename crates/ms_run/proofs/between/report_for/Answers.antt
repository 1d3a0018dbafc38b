use Rattle.std.proofs.Common.{sym, subst}
use Rattle.ms_answers.specs.declared.totals.Totals.{Totals}
use Rattle.ms_run.specs.Replay.{AreOf, HasVerbosity}
use Rattle.ms_run.proofs.between.report_for.Goals as goal

pub returns-in_ok-new-in-Report : goal.returns-in_ok-new-in-Report
returns-in_ok-new-in-Report c = record {
  reports = rw c.in-Report.is (λ course taken. subst (λ (totals : Totals). AreOf course totals)
      (sym c.in_ok-new-in-Report.ensures.ok) (c.in_ok-totals_of-in-Report.ensures.of course taken));
  detailed = subst (λ (totals : Totals). HasVerbosity c.args.verbosity totals) (sym c.in_ok-new-in-Report.ensures.ok)
      c.in_ok-totals_of-in-Report.ensures.detailed;
}
