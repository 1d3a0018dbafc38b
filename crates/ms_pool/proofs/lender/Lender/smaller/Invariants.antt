use Rattle.std.proofs.Common.{◌≡◌, ◌≤◌, ◌-◌}
use Rattle.ms_pool.specs.Ledger.{state_in}
use Rattle.ms_pool.specs.Keeping.{ledger_of}
use Rattle.ms_pool.specs.Searching.{first_up}
use Rattle.ms_pool.proofs.searches.SearchLemmas.{found_from}
use Rattle.ms_pool.proofs.lender.Lender.smaller.Given as goal

-- What is found first lies at the levels that are left.
abbrev pub invariant-loop-level : goal.invariant-loop-level
invariant-loop-level l =
    (l.from ≤ 13)
    × (first_up (state_in l.fn.wish.space (ledger_of l.self)) l.fn.wish.words l.fn.wish.committed l.fn.wanted l.fn.most
    ≡ found_from (state_in l.fn.wish.space (ledger_of l.self)) l.fn.wish.words l.fn.wish.committed l.fn.most l.from)

abbrev pub decreases-loop-level : goal.decreases-loop-level
decreases-loop-level l = 13 - l.from
