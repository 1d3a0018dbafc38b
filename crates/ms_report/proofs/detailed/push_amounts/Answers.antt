use Rattle.ms_report.proofs.detailed.push_amounts.Goals as goal

pub returns : goal.returns
returns c = c.push_amount_lines.ensures
