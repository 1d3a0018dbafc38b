-- Each step goes down a level.
use Rattle.std.proofs.Common.{◌-◌}
use Rattle.ms_buddy.proofs.node.Node.+leaf_at.Given as goal

abbrev pub decreases-leaf_at : goal.decreases-leaf_at
decreases-leaf_at g l = 13 - l.level
