use Rattle.ms_report.proofs.RunColumnLemmas.{refused_lines}
use Rattle.ms_report.proofs.laws.refusals_line_up.Goals as goal

pub returns : goal.returns
returns c = refused_lines
