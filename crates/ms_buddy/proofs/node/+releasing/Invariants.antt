-- Each step goes down a level.
use Rattle.std.proofs.Common.{◌-◌, ◌*◌, ◌+◌}
use Rattle.ms_buddy.proofs.node.+releasing.Given as goal

abbrev pub decreases-Node::release : goal.decreases-Node::release
decreases-Node::release g l = 2 * (13 - l.level)

abbrev pub decreases-release_in_half : goal.decreases-release_in_half
decreases-release_in_half g l = 2 * (12 - l.level) + 1
