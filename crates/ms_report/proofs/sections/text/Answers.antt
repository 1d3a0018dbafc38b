use Rattle.std.proofs.Common.{rules}
use Rattle.ms_report.proofs.sections.text.Goals as goal

pub returns : goal.returns
returns c = search rules
