-- The parts that are left lie in a row, and give what was left at the start.
use Rattle.std.proofs.Common.{◌≡◌}
use Rattle.ms_base.specs.Level.{root_words}
use Rattle.ms_buddy.specs.Leaves.{free_of, from_on}
use Rattle.ms_buddy.specs.Row.{IsRow}
use Rattle.ms_buddy.proofs.searches.RowLemmas.{looks_left}
use Rattle.ms_buddy.proofs.part_walk.next_part.Given as goal

abbrev pub invariant-loop-level : goal.invariant-loop-level
invariant-loop-level g l = IsRow 0 root_words l.levels.items l.at (free_of l.table)
    × (from_on l.at (free_of l.table) ≡ from_on l.fn.at (free_of l.table))

abbrev pub decreases-loop-level : goal.decreases-loop-level
decreases-loop-level g l = looks_left l.levels.items
