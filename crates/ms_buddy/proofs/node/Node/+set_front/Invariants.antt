-- Each step goes down a level.
use Rattle.std.proofs.Common.{◌-◌}
use Rattle.ms_buddy.proofs.node.Node.+set_front.Given as goal

abbrev pub decreases-set_front : goal.decreases-set_front
decreases-set_front g l = 13 - l.level
