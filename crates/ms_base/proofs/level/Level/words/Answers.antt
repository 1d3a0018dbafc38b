use Rattle.std.proofs.Common.{rules}
use Rattle.ms_base.proofs.level.Level.words.Goals as goal

pub returns-in_default-clause-size : goal.returns-in_default-clause-size
returns-in_default-clause-size c = search rules
