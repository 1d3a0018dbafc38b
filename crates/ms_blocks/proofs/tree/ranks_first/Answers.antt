use Rattle.std.proofs.Common.{rules}
use Rattle.ms_blocks.proofs.tree.ranks_first.Goals as goal

pub returns-then-one-other-2 : goal.returns-then-one-other-2
returns-then-one-other-2 c = search rules
