use Rattle.std.proofs.Common.{◌≡◌, ◌≤◌, [], length, nat_eq, take}
use Rattle.std.specs.Map.{lookup}
use Rattle.ms_arena.specs.Others.{entries_onto}
use Rattle.ms_arena.proofs.words.others.found_in.Given as goal

abbrev pub invariant-loop-left : goal.invariant-loop-left
invariant-loop-left l = (l.left ≤ length l.list)
    × (lookup (nat_eq l.stretch) (entries_onto l.list []) ≡ lookup (nat_eq l.stretch) (entries_onto (take l.left l.list) []))

abbrev pub decreases-loop-left : goal.decreases-loop-left
decreases-loop-left l = l.left
