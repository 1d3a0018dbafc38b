use Rattle.std.proofs.Common.{◌≡◌, ◌≤◌, ◌++◌, map}
use Rattle.ms_pool.specs.Keeping.{ledger_of}
use Rattle.ms_pool.specs.Ledger.{state_in}
use Rattle.ms_pool.specs.Mapping.{map_in, maps_of}
use Rattle.ms_pool.proofs.maps.RootMapLemmas.{maps_left}
use Rattle.ms_pool.proofs.searches.SlotLoopLemmas.{end_slot, first_slot}
use Rattle.ms_pool.proofs.lender.Lender.push_maps.Given as goal

-- The maps so far and those of the slots that are left make the whole.
abbrev pub invariant-loop-slot : goal.invariant-loop-slot
invariant-loop-slot l = record {
  low : first_slot l.space ≤ l.slot;
  whole : map map_in l.maps.items
      ++ maps_left l.self.nodes (state_in l.space (ledger_of l.self)) l.slot (end_slot l.space l.self.nodes)
      ≡ map map_in l.fn.maps.items ++ maps_of (state_in l.space (ledger_of l.self));
}
