use Rattle.std.proofs.Common.{append-nil, decimal}
use Rattle.ms_report.proofs.done_line.DoneLine.push_number.Goals as goal

pub returns : goal.returns
returns c = rw (append-nil (decimal c.args.number)) at c.push_up_to.ensures
