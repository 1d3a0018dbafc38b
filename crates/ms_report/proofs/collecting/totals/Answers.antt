use Rattle.ms_report.proofs.collecting.totals.Goals as goal

pub returns : goal.returns
returns c = c.totals.ensures
