use Rattle.std.proofs.Common.{ℕ, List, ◌++◌, map, ap, sym, ◌∙◌, arith}
use Rattle.ms_pool.specs.Keeping.{ledger_of}
use Rattle.ms_pool.specs.Ledger.{state_in}
use Rattle.ms_pool.specs.Mapping.{RootCells, map_in}
use Rattle.ms_pool.proofs.maps.RootMapLemmas.{maps_are, maps_left, next_slot, no_slot}
use Rattle.ms_pool.proofs.searches.SlotLoopLemmas.{end_slot}
use Rattle.ms_pool.proofs.lender.Lender.push_maps.Goals as goal

pub loop-slot-init : goal.loop-slot-init
loop-slot-init c = record {
  low = omega (arith, c.slots_of-first.ensures.first);
  whole = ap (λ (l : List RootCells). map map_in c.args.maps.now.items ++ l)
      (ap (λ (slot : ℕ). maps_left c.args.self.now.nodes (state_in c.args.space (ledger_of c.args.self.now)) slot
      (end_slot c.args.space c.args.self.now.nodes)) c.slots_of-first.ensures.first
      ∙ sym (maps_are c.args.space c.args.self.now c.requires));
}

pub loop-slot-preserved : goal.loop-slot-preserved
loop-slot-preserved c = record {
  low = omega (arith, c.loop-slot.invariant.low);
  whole = next_slot c.args.self.now.nodes (state_in c.args.space (ledger_of c.args.self.now))
      (map map_in c.loop-slot.maps.items) (map map_in c.push_slot.new.maps.items) _ c.loop-slot.slot
      (end_slot c.args.space c.args.self.now.nodes) (omega (arith, c.loop-slot-test.true, c.slots_of-first.ensures.end))
      c.in_ok-push_slot.ensures c.loop-slot.invariant.whole;
}

pub returns : goal.returns
returns c =
    no_slot c.args.self.now.nodes (state_in c.args.space (ledger_of c.args.self.now))
    (map map_in c.loop-slot.maps.items) _ c.loop-slot.slot (end_slot c.args.space c.args.self.now.nodes)
    (omega (arith, c.loop-slot-test.false, c.slots_of-first.ensures.end)) c.loop-slot.invariant.whole
