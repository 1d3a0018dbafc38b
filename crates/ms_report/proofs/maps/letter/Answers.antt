use Rattle.std.proofs.Common.{sym, ap}
use Rattle.ms_report.specs.Map.{letter}
use Rattle.ms_report.proofs.maps.letter.Goals as goal

pub returns-in-LentUncommitted : goal.returns-in-LentUncommitted
returns-in-LentUncommitted c = sym (ap letter c.in-LentUncommitted.is)
