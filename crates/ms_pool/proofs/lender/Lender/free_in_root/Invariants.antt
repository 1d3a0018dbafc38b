use Rattle.std.proofs.Common.{cond, [], get_or}
use Rattle.std.specs.Prelude.{nat_lt}
use Rattle.ms_buddy.specs.Counts.{AreRaised, count_at_level}
use Rattle.ms_buddy.specs.Leaves.{free_of}
use Rattle.ms_pool.proofs.lender.Lender.free_in_root.Given as goal

-- The levels passed are counted.
abbrev pub invariant-loop-level : goal.invariant-loop-level
invariant-loop-level l =
    AreRaised l.fn.before.free
    (λ other. cond (nat_lt other l.level) (count_at_level other (free_of (get_or l.self.trees.items l.root []))) 0)
    l.counted.free
