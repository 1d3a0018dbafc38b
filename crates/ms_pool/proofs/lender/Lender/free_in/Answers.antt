use Rattle.ms_base.specs.Level.{level_count}
use Rattle.std.proofs.Common.{refl, arith}
use Rattle.ms_pool.proofs.counts.FreeCountLemmas.{counted_to_first, counted_to_last, counted_to_next, room_for_next}
use Rattle.ms_pool.proofs.counts.LentCountLemmas.{no_count}
use Rattle.ms_pool.proofs.lender.Lender.free_in.Goals as goal

pub loop-slot-init : goal.loop-slot-init
loop-slot-init c =
    counted_to_first c.args.space c.args.self.now _ _ c.requires c.slots_of-first.ensures.first refl
    (λ level. no_count level_count level 0 refl)

pub loop-slot-preserved : goal.loop-slot-preserved
loop-slot-preserved c =
    counted_to_next c.args.space c.args.self.now c.loop-slot.counted.free c.free_in_slot-counted.result.free
    c.loop-slot.slot
    (omega (arith, c.loop-slot-test.true, c.slots_of-first.ensures.end)) c.loop-slot.invariant
    c.free_in_slot-counted.ensures

pub free_in_slot-counted-requires : goal.free_in_slot-counted-requires
free_in_slot-counted-requires c = record {
  kept = c.requires;
  low = c.loop-slot.invariant.low;
  high = omega (arith, c.loop-slot-test.true, c.slots_of-first.ensures.end);
  room = room_for_next c.args.space c.args.self.now c.loop-slot.counted.free c.loop-slot.slot c.requires
      (omega (arith, c.loop-slot-test.true, c.slots_of-first.ensures.end)) c.loop-slot.invariant;
}

pub returns : goal.returns
returns c =
    counted_to_last c.args.space c.args.self.now c.loop-slot.counted.free c.loop-slot.slot
    (omega (arith, c.loop-slot-test.false, c.slots_of-first.ensures.end)) c.loop-slot.invariant
