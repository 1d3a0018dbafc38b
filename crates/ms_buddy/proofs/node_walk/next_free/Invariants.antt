-- The visits that are left give what was left at the start.
use Rattle.std.proofs.Common.{◌≡◌}
use Rattle.ms_buddy.specs.Walk.{IsStack, left_of}
use Rattle.ms_buddy.proofs.boxes.StackLemmas.{nodes_left}
use Rattle.ms_buddy.proofs.node_walk.next_free.Given as goal

abbrev pub invariant-loop-top : goal.invariant-loop-top
invariant-loop-top g l = IsStack 0 l.stack.items × (left_of l.stack.items ≡ left_of l.fn.stack.items)

abbrev pub decreases-loop-top : goal.decreases-loop-top
decreases-loop-top g l = nodes_left l.stack.items
