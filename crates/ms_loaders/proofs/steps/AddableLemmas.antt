-- A chunk that the pool lends may be added to a machine; for the law about events.
use Rattle.std.proofs.Common.{◌≡◌, ◌≤◌, ℕ, true, length, ap, arith, inl, inr}
use Rattle.std.specs.Ordering.{nat_cmp}
use Rattle.std.specs.BTreeSet.{insert_key}
use Rattle.std.proofs.lemmas.Bool.{ltb-true}
use Rattle.std.proofs.lemmas.List.FromFn.{length-range_with_len}
use Rattle.std.proofs.lemmas.Map.Keys.{sorted_from_strictly_increasing}
use Rattle.ms_base.specs.declared.kind.Space.{Space}
use Rattle.ms_base.specs.declared.kind.Space.TheVariants.{NonClass, Class}
use Rattle.ms_base.specs.Part.{slot_of}
use Rattle.ms_base.specs.Spaces.{is_in, first_class_word}
use Rattle.ms_base.specs.State.{Machine, pool_of}
use Rattle.ms_base.specs.Good.{IsGood}
use Rattle.ms_base.proofs.machine.SlotLemmas.{length_with}
use Rattle.ms_base.proofs.machine.AddedLemmas.{MayReserve}
use Rattle.ms_base.proofs.events.KeptEventLemmas.{TakingIsAddable}
use Rattle.ms_pool.proofs.ledger.TakenLemmas.{HasSlot, IsLendable, taken_is_lendable}
use Rattle.ms_pool.proofs.ledger.LedgerSlotLemmas.{same_with}

-- The slot of a chunk of a space may be reserved there.
may_reserve : (space : Space) (m : Machine) (start : ℕ) → IsGood m → is_in space start ≡ true
    → HasSlot (pool_of space m) (slot_of start) → MayReserve space m (slot_of start)
may_reserve NonClass m start good here has = (omega (arith, ltb-true start first_class_word here), within has)
  where
    within : HasSlot (pool_of NonClass m) (slot_of start)
        → length (insert_key nat_cmp m.slots (slot_of start)) ≤ m.limits.nodes
    within (inl reserved) = omega (
      arith,
      ap length
          (same_with m.slots (slot_of start) (sorted_from_strictly_increasing m.slots (good.pools NonClass).slots)
          reserved),
      (good.pools NonClass).reserved,
    )
    within (inr more) = omega (arith, more.1, length_with m.slots (slot_of start))
may_reserve Class m start good here (inl reserved) = reserved
may_reserve Class m start good here (inr more) =
    absurd (omega (arith, more.1, length-range_with_len 64 m.limits.class_nodes))

-- So a chunk that is lent may be added, within the limit of granules.
pub taking_is_addable : TakingIsAddable
taking_is_addable space m p most words chunk good askable answer here = record {
  addable =
      record {
        placed = its.placed;
        front = its.front;
        clear = its.clear;
        slot = may_reserve space m chunk.start good here its.slot;
      };
  within = its.within;
}
  where
    its : IsLendable (pool_of space m) chunk
    its = taken_is_lendable (pool_of space m) p most words chunk (good.pools space) askable.order askable.least
        askable.some askable.fits answer
