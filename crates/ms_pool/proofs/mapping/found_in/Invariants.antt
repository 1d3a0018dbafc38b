use Rattle.ms_pool.proofs.maps.FoundLemmas.{AreLeft}
use Rattle.ms_pool.proofs.mapping.found_in.Given as goal

-- What was found and what the free leaves that are left say come to what all say.
abbrev pub invariant-loop-part : goal.invariant-loop-part
invariant-loop-part l = AreLeft l.tree l.part-iterator l.found.lent l.found.free
