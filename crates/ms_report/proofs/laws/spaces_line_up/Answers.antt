use Rattle.ms_report.proofs.RunColumnLemmas.{space_lines}
use Rattle.ms_report.proofs.laws.spaces_line_up.Goals as goal

pub returns : goal.returns
returns c = space_lines
