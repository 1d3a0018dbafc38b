-- The machine stays good where a loader takes a chunk in a space and is sound with it.
use Rattle.std.proofs.Common.{◌≡◌, ◌≤◌, ◌<◌, ◌+◌, ℕ, true, false, List, [], ◌∷◌, ◌++◌, length, refl, sym, ap, ◌∙◌}
use Rattle.std.specs.Ordering.{nat_cmp}
use Rattle.std.specs.List.{All, list_all}
use Rattle.std.specs.List.Sorted.{IsStrictlyIncreasing}
use Rattle.std.specs.BTreeSet.{insert_key}
use Rattle.std.proofs.lemmas.Bool.{and_parts, and_from}
use Rattle.std.proofs.lemmas.List.{append_assoc}
use Rattle.std.proofs.lemmas.Map.Views.{All-insert_key}
use Rattle.ms_base.specs.declared.kind.Space.{Space}
use Rattle.ms_base.specs.declared.kind.Space.TheVariants.{NonClass, Class}
use Rattle.ms_base.specs.declared.span.Chunk.{Chunk}
use Rattle.ms_base.specs.Part.{IsPart, slot_of, is_reserved}
use Rattle.ms_base.specs.Spaces.{other_space, by_space, class_slots, IsSlotOf, first_class_slot}
use Rattle.ms_base.specs.Front.{HasFront}
use Rattle.ms_base.specs.Held.{meets_chunk}
use Rattle.ms_base.specs.Names.{with_changed}
use Rattle.ms_base.specs.PoolSteps.{slots_with}
use Rattle.ms_base.specs.State.{LoaderState, Machine, arena_of, chunks_held, slots_in, with_slots, committed_in}
use Rattle.ms_base.specs.State.{committed_now, pool_of, recommitted}
use Rattle.ms_base.specs.Good.{IsSoundLoader, IsGood}
use Rattle.ms_base.specs.Transition.{HasLoader}
use Rattle.ms_base.proofs.entries.EntryLemmas.{Split, split_at}
use Rattle.ms_base.proofs.machine.HeldLemmas.{held_with, held_in}
use Rattle.ms_base.proofs.machine.SlotLemmas.{reserved_with, reserved_still, slots_rise_with}
use Rattle.ms_base.proofs.machine.GoodLemmas.{chunks_split}
use Rattle.ms_base.proofs.machine.ChangeLemmas.{changed, good_with_change}

-- A slot in which a chunk of the space may be added: one that is reserved or may be; in the class
-- space it is there already.
abbrev pub MayReserve : Space → Machine → ℕ → Type 0
MayReserve NonClass m slot = (slot < first_class_slot) × (length (insert_key nat_cmp m.slots slot) ≤ m.limits.nodes)
MayReserve Class m slot = is_reserved (class_slots m.limits.class_nodes) slot ≡ true

-- A chunk that the machine may hold besides those held in a space: a part that meets none, with a
-- front, in such a slot.
pub record IsAddable (space : Space) (m : Machine) (chunk : Chunk) : Type 0 where
  pub placed : IsPart chunk.start chunk.level
  pub front : HasFront m.limits.policy chunk
  pub clear : meets_chunk (chunks_held space m.loaders) chunk.start chunk.level ≡ false
  pub slot : MayReserve space m (slot_of chunk.start)

-- The slots of chunks stay reserved with another.
pub still_reserved : (slots : List ℕ) (slot : ℕ) (held : List Chunk)
    → list_all (λ (chunk : Chunk). is_reserved slots (slot_of chunk.start)) held ≡ true
    → list_all (λ (chunk : Chunk). is_reserved (insert_key nat_cmp slots slot) (slot_of chunk.start)) held ≡ true
still_reserved slots slot [] h = refl
still_reserved slots slot (c ∷ held) h =
    let both =
    and_parts (is_reserved slots (slot_of c.start))
    (list_all (λ (d : Chunk). is_reserved slots (slot_of d.start)) held) h in
    let more = insert_key nat_cmp slots slot in
    and_from (is_reserved more (slot_of c.start)) (list_all (λ (d : Chunk). is_reserved more (slot_of d.start)) held)
    (reserved_still slots slot (slot_of c.start) both.0) (still_reserved slots slot held both.1)

-- The slots of the space with that of a chunk.
abbrev pub slots_then : Space → Machine → ℕ → List ℕ
slots_then space m start = slots_in space (with_slots space m (slots_with (slots_in space m) start))

record AreWithSlot (space : Space) (m : Machine) (start : ℕ) : Type 0 where
  rising : IsStrictlyIncreasing (slots_then space m start)
  below : All (IsSlotOf space) (slots_then space m start)
  reserved : length (slots_then space m start) ≤ by_space space m.limits.nodes m.limits.class_nodes
  has : is_reserved (slots_then space m start) (slot_of start) ≡ true
  still : (held : List Chunk) → list_all (λ (chunk : Chunk). is_reserved (slots_in space m) (slot_of chunk.start)) held
      ≡ true
      → list_all (λ (chunk : Chunk). is_reserved (slots_then space m start) (slot_of chunk.start)) held ≡ true

with_slot : (space : Space) (m : Machine) (start : ℕ) → MayReserve space m (slot_of start) → IsGood m
    → AreWithSlot space m start
with_slot NonClass m start may good = record {
  rising = slots_rise_with m.slots (slot_of start) (good.pools NonClass).slots;
  below = All-insert_key nat_cmp (slot_of start) (IsSlotOf NonClass) m.slots (good.pools NonClass).below may.0;
  reserved = may.1;
  has = reserved_with m.slots (slot_of start);
  still = λ held h. still_reserved m.slots (slot_of start) held h;
}
with_slot Class m start may good = record {
  rising = (good.pools Class).slots;
  below = (good.pools Class).below;
  reserved = (good.pools Class).reserved;
  has = may;
  still = λ held h. h;
}

-- A loader that has one chunk more in a space, and is sound with it.
pub good_with_chunk : (space : Space) (m : Machine) (name : ℕ) (before other : LoaderState) (chunk : Chunk)
    → HasLoader m name before
    → (arena_of space other).chunks ≡ (arena_of space before).chunks ++ chunk ∷ []
    → (arena_of (other_space space) other).chunks ≡ (arena_of (other_space space) before).chunks
    → IsSoundLoader other → IsAddable space m chunk
    → length (committed_now (pool_of space (changed space m name other (slots_with (slots_in space m) chunk.start))))
    + length (committed_in (other_space space) m) ≤ m.limits.granules
    → IsGood m → IsGood (recommitted (changed space m name other (slots_with (slots_in space m) chunk.start)))
good_with_chunk space m name before other chunk found chunks same sound addable few good =
    good_with_change space m name before other (slots_with (slots_in space m) chunk.start) found same sound (record {
      held = rw new
          (held_with m.limits.policy slots (b ++ own) chunk a addable.placed addable.front with_its.has
          (rw old at addable.clear)
          (held_in m.limits.policy (slots_in space m) slots ((b ++ own) ++ a)
          (with_its.still ((b ++ own) ++ a) (rw old at (good.pools space).held.reserved))
          (rw old at (good.pools space).held)));
      slots = with_its.rising;
      below = with_its.below;
      reserved = with_its.reserved;
    }) few good
  where
    slots : List ℕ
    slots = slots_then space m chunk.start

    with_its : AreWithSlot space m chunk.start
    with_its = with_slot space m chunk.start addable.slot good

    own : List Chunk
    own = (arena_of space before).chunks

    split : Split m.loaders name before
    split = split_at m.loaders name before found

    b : List Chunk
    b = chunks_held space split.before

    a : List Chunk
    a = chunks_held space split.after

    old : chunks_held space m.loaders ≡ (b ++ own) ++ a
    old = ap (chunks_held space) split.is ∙ chunks_split space split.before split.after name before
        ∙ sym (append_assoc b own a)

    new : chunks_held space (with_changed m.loaders name other) ≡ (b ++ own) ++ chunk ∷ a
    new = ap (chunks_held space) (split.changed other) ∙ chunks_split space split.before split.after name other
        ∙ ap (λ (l : List Chunk). b ++ (l ++ a)) chunks
        ∙ ap (λ (l : List Chunk). b ++ l) (append_assoc own (chunk ∷ []) a)
        ∙ sym (append_assoc b own (chunk ∷ a))
