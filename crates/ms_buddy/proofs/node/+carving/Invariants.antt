-- Each step goes down a level.
use Rattle.std.proofs.Common.{◌-◌, ◌*◌, ◌+◌}
use Rattle.ms_buddy.proofs.node.+carving.Given as goal

abbrev pub decreases-Node::carve : goal.decreases-Node::carve
decreases-Node::carve g l = 2 * (13 - l.level)

abbrev pub decreases-carve_in_half : goal.decreases-carve_in_half
decreases-carve_in_half g l = 2 * (12 - l.level) + 1
