-- Each step goes down a level.
use Rattle.std.proofs.Common.{◌-◌}
use Rattle.ms_buddy.proofs.node.Node.+with_lent.Given as goal

abbrev pub decreases-with_lent : goal.decreases-with_lent
decreases-with_lent g l = 13 - l.level
