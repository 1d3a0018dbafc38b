use Rattle.ms_pool.proofs.maps.FoundLemmas.{AreUpTo}
use Rattle.ms_pool.proofs.mapping.note.Given as goal

-- The cells so far are noted.
abbrev pub invariant-loop-number : goal.invariant-loop-number
invariant-loop-number l =
    AreUpTo l.whole l.first l.number l.fn.found.lent l.fn.found.free l.found.lent l.found.free
