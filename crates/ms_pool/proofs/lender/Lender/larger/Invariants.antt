use Rattle.std.proofs.Common.{◌≡◌, ◌≤◌, ◌+◌}
use Rattle.ms_pool.specs.Ledger.{state_in}
use Rattle.ms_pool.specs.Keeping.{ledger_of}
use Rattle.ms_pool.specs.Searching.{first_down}
use Rattle.ms_pool.proofs.searches.SearchLemmas.{found_below}
use Rattle.ms_pool.proofs.lender.Lender.larger.Given as goal

-- What is found first lies at the levels that are left.
abbrev pub invariant-loop-level : goal.invariant-loop-level
invariant-loop-level l =
    (l.end ≤ l.fn.wanted + 1)
    × (first_down (state_in l.fn.wish.space (ledger_of l.self)) l.fn.wish.words l.fn.wish.committed l.fn.wanted
    ≡ found_below (state_in l.fn.wish.space (ledger_of l.self)) l.fn.wish.words l.fn.wish.committed l.fn.wanted l.end)

abbrev pub decreases-loop-level : goal.decreases-loop-level
decreases-loop-level l = l.end
