-- Each step goes down a level.
use Rattle.std.proofs.Common.{◌-◌, ◌*◌, ◌+◌}
use Rattle.ms_buddy.proofs.node.+enlarging.Given as goal

abbrev pub decreases-Node::enlarge : goal.decreases-Node::enlarge
decreases-Node::enlarge g l = 2 * (13 - l.level)

abbrev pub decreases-enlarge_in_half : goal.decreases-enlarge_in_half
decreases-enlarge_in_half g l = 2 * (12 - l.level) + 1
