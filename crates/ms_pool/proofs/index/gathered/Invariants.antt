use Rattle.std.proofs.Common.{◌<◌, ◌≤◌}
use Rattle.ms_pool.specs.Trees.{HaveLevels}
use Rattle.ms_pool.proofs.index.gathered.Given as goal

-- The levels of the entries passed.
abbrev pub invariant-loop-entry : goal.invariant-loop-entry
invariant-loop-entry l = HaveLevels l.levels l.entries (λ entry. (l.from ≤ entry) × (entry < l.entry))
