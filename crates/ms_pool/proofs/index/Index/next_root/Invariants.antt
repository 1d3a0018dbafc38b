use Rattle.std.proofs.Common.{◌≡◌, ℕ, ◌<◌, ◌≤◌, false, get_or}
use Rattle.ms_buddy.specs.Leaves.{has_level}
use Rattle.ms_pool.proofs.index.Index.next_root.Given as goal

-- None of the roots passed has the level.
abbrev pub invariant-loop-root : goal.invariant-loop-root
invariant-loop-root l = (k : ℕ) → l.from ≤ k → k < l.root → has_level (get_or l.self k 0) l.level ≡ false
