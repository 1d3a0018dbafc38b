-- The machine stays good where a loader is made, changed without another chunk, or unloaded, and
-- where nodes are purged.
use Rattle.std.proofs.Common.{◌≡◌, ◌≤◌, ◌+◌, ℕ, Option, Some, None, List, [], ◌∷◌, ◌++◌, length, refl, sym, ap, ◌∙◌}
use Rattle.std.proofs.Common.{subst, arith}
use Rattle.std.specs.Ordering.{nat_cmp}
use Rattle.std.specs.List.{All, flat_map, filter}
use Rattle.std.specs.List.Sorted.{IsStrictlyIncreasing}
use Rattle.std.specs.Map.{values_of}
use Rattle.std.specs.BTreeMap.{is_at}
use Rattle.std.specs.Option.{IfSome}
use Rattle.std.proofs.lemmas.List.Concat.{flat_map-append}
use Rattle.std.proofs.lemmas.List.Sums.{length-filter, count_by-le-length}
use Rattle.std.proofs.lemmas.List.Elements.{All-filter}
use Rattle.std.proofs.lemmas.List.Kept.{IsStrictlyIncreasing-filter}
use Rattle.std.proofs.lemmas.Map.Views.{All-values-insert_entry, All-map-remove_entry, All-values-set_value}
use Rattle.std.proofs.lemmas.Map.Views.{IfSome-lookup_from_All}
use Rattle.ms_base.specs.Policy.{granule_of}
use Rattle.ms_base.specs.declared.kind.Kind.{Kind}
use Rattle.ms_base.specs.declared.kind.Space.{Space}
use Rattle.ms_base.specs.declared.kind.Space.TheVariants.{NonClass, Class}
use Rattle.ms_base.specs.Spaces.{other_space, class_slots, IsSlotOf}
use Rattle.ms_base.specs.Committed.{committed_with, is_committed_now}
use Rattle.ms_base.specs.PoolSteps.Causes.{node_limit}
use Rattle.ms_base.specs.declared.span.Chunk.{Chunk}
use Rattle.ms_base.specs.Names.{named, with_new, with_changed, without}
use Rattle.ms_base.specs.Held.{AreHeld, has_chunk_in}
use Rattle.ms_base.specs.State.{ArenaState, LoaderState, Machine, PoolState, arena_of, slots_in, committed_in}
use Rattle.ms_base.specs.State.{chunks_held, committed_now, recommitted, empty_arena, empty_loader, pool_of}
use Rattle.ms_base.specs.Good.{IsSound, IsSoundLoader, IsSoundPool, IsGood}
use Rattle.ms_base.specs.Transition.{HasLoader, LacksLoader, HasOwnerNumbers, with_loader, purged}
use Rattle.ms_base.proofs.entries.NameLemmas.{rises_with_new}
use Rattle.ms_base.proofs.entries.EntryLemmas.{Split, split_at, gap_at, values_split, values_joined, rises_with_changed}
use Rattle.ms_base.proofs.entries.EntryLemmas.{rises_without}
use Rattle.ms_base.proofs.machine.HeldLemmas.{held_rest, held_in}
use Rattle.ms_base.proofs.machine.SlotLemmas.{slots_of_chunks, all_have}
use Rattle.ms_base.proofs.granules.CommittedLemmas.{committed_rest, committed_settles, fewer_slots}

-- What holds of a space and of the other holds of each.
pub each_space : (P : Space → Type 0) (space : Space) → P space → P (other_space space) → (one : Space) → P one
each_space P NonClass here there NonClass = here
each_space P NonClass here there Class = there
each_space P Class here there NonClass = there
each_space P Class here there Class = here

-- The chunks of loaders before, at and after a name.
pub chunks_split : (space : Space) (before after : List (ℕ × LoaderState)) (name : ℕ) (loader : LoaderState)
    → chunks_held space (before ++ (name, loader) ∷ after)
    ≡ chunks_held space before ++ ((arena_of space loader).chunks ++ chunks_held space after)
chunks_split space before after name loader =
    ap (flat_map (λ (l : LoaderState). (arena_of space l).chunks)) (values_split before after name loader)
    ∙ flat_map-append (λ (l : LoaderState). (arena_of space l).chunks) (values_of before) (loader ∷ values_of after)

pub chunks_joined : (space : Space) (before after : List (ℕ × LoaderState))
    → chunks_held space (before ++ after) ≡ chunks_held space before ++ chunks_held space after
chunks_joined space before after =
    ap (flat_map (λ (l : LoaderState). (arena_of space l).chunks)) (values_joined before after)
    ∙ flat_map-append (λ (l : LoaderState). (arena_of space l).chunks) (values_of before) (values_of after)

-- A new loader holds nothing.
pub chunks_with_new : (space : Space) (loaders : List (ℕ × LoaderState)) (name : ℕ) (loader : LoaderState)
    → named loaders name ≡ None
    → (arena_of space loader).chunks ≡ [] → chunks_held space (with_new loaders name loader) ≡ chunks_held space loaders
chunks_with_new space loaders name loader none empty =
    let gap = gap_at loaders name none in
    ap (chunks_held space) (gap.made loader) ∙ chunks_split space gap.before gap.after name loader
    ∙ ap (λ (l : List Chunk). chunks_held space gap.before ++ (l ++ chunks_held space gap.after)) empty
    ∙ sym (chunks_joined space gap.before gap.after) ∙ sym (ap (chunks_held space) gap.is)

-- A loader that keeps its chunks changes nothing of what is held.
pub chunks_with_same : (space : Space) (loaders : List (ℕ × LoaderState)) (name : ℕ) (loader other : LoaderState)
    → named loaders name ≡ Some loader → (arena_of space other).chunks ≡ (arena_of space loader).chunks
    → chunks_held space (with_changed loaders name other) ≡ chunks_held space loaders
chunks_with_same space loaders name loader other found same =
    let split = split_at loaders name loader found in
    ap (chunks_held space) (split.changed other) ∙ chunks_split space split.before split.after name other
    ∙ ap (λ (l : List Chunk). chunks_held space split.before ++ (l ++ chunks_held space split.after)) same
    ∙ sym (chunks_split space split.before split.after name loader) ∙ sym (ap (chunks_held space) split.is)

-- A pool with the same chunks is as sound.
pub sound_with : (pool : PoolState) (held : List Chunk) → held ≡ pool.held → IsSoundPool pool
    → IsSoundPool (record pool { held = held })
sound_with pool held same sound = rw same sound

-- A space that is sound but for its granules, and one that is so altogether once they follow.
pub record IsSoundBut (pool : PoolState) : Type 0 where
  pub held : AreHeld pool.limits.policy pool.slots pool.held
  pub slots : IsStrictlyIncreasing pool.slots
  pub below : All (IsSlotOf pool.space) pool.slots
  pub reserved : length pool.slots ≤ node_limit pool

pub sound_but : (pool : PoolState) → IsSoundPool pool → IsSoundBut pool
sound_but pool sound = record { held = sound.held; slots = sound.slots; below = sound.below; reserved = sound.reserved }

-- A sound pool that keeps only its slots with a chunk is sound but for its granules.
pub kept_is_sound : (pool : PoolState) → IsSoundPool pool
    → IsSoundBut (record pool { slots = filter (has_chunk_in pool.held) pool.slots })
kept_is_sound pool sound = record {
  held = held_in pool.limits.policy pool.slots kept pool.held
      (slots_of_chunks pool.held pool.slots pool.held (all_have pool.held) sound.held.reserved) sound.held;
  slots = IsStrictlyIncreasing-filter (has_chunk_in pool.held) pool.slots sound.slots;
  below = All-filter (has_chunk_in pool.held) (IsSlotOf pool.space) pool.slots sound.below;
  reserved =
      omega (
        arith,
        sound.reserved,
        length-filter (has_chunk_in pool.held) pool.slots,
        count_by-le-length (has_chunk_in pool.held) pool.slots,
      );
}
  where
    kept : List ℕ
    kept = filter (has_chunk_in pool.held) pool.slots

pub recommitted_is_sound : (m : Machine) → ((space : Space) → IsSoundBut (pool_of space m))
    → length (committed_now (pool_of NonClass m)) + length (committed_now (pool_of Class m)) ≤ m.limits.granules
    → (space : Space) → IsSoundPool (pool_of space (recommitted m))
recommitted_is_sound m sound few NonClass = record {
  held = (sound NonClass).held;
  slots = (sound NonClass).slots;
  below = (sound NonClass).below;
  committed = sym (committed_settles m.limits.policy m.committed (chunks_held NonClass m.loaders) m.slots);
  granules = few;
  reserved = (sound NonClass).reserved;
}
recommitted_is_sound m sound few Class = record {
  held = (sound Class).held;
  slots = (sound Class).slots;
  below = (sound Class).below;
  committed =
      sym (committed_settles m.limits.policy m.class_committed (chunks_held Class m.loaders)
      (class_slots m.limits.class_nodes));
  granules = omega (arith, few);
  reserved = (sound Class).reserved;
}

-- An empty loader is sound.
empty_arenas : (kind : Kind) (space : Space) → arena_of space (empty_loader kind) ≡ empty_arena
empty_arenas kind NonClass = refl
empty_arenas kind Class = refl

pub empty_is_sound : IsSound empty_arena []
empty_is_sound =
    record {
      apart = refl;
      long = refl;
      inside = refl;
      few = omega arith;
      tops = refl;
      kept = λ k h. absurd (omega arith);
    }

pub sound_when_empty : (kind : Kind) → IsSoundLoader (empty_loader kind)
sound_when_empty kind = record {
  arenas = λ space. rw (empty_arenas kind space) empty_is_sound;
  names = λ k h. absurd (omega arith);
}

-- Each loader of a good machine is sound.
pub loader_is_sound : (m : Machine) (name : ℕ) (loader : LoaderState) → named m.loaders name ≡ Some loader → IsGood m
    → IsSoundLoader loader
loader_is_sound m name loader found good =
    subst (λ (o : Option LoaderState). IfSome o IsSoundLoader) found
    (IfSome-lookup_from_All IsSoundLoader (is_at (nat_cmp name)) m.loaders good.loaders)

-- A new loader.
pub good_with_new_loader : (m : Machine) (name : ℕ) (kind : Kind) → LacksLoader m name → HasOwnerNumbers m → IsGood m
    → IsGood (record m { loaders = with_new m.loaders name (empty_loader kind); given = m.given + 2 })
good_with_new_loader m name kind none few good = record {
  loaders =
      All-values-insert_entry nat_cmp name (empty_loader kind) IsSoundLoader m.loaders good.loaders
      (sound_when_empty kind);
  names = rises_with_new m.loaders name (empty_loader kind) good.names;
  pools = λ space. sound_with (pool_of space m) _
      (chunks_with_new space m.loaders name (empty_loader kind) none
      (ap (λ (arena : ArenaState). arena.chunks) (empty_arenas kind space))) (good.pools space);
  given = few;
}

-- Owner numbers that are used up, as a New refused for want of memory may leave them.
pub good_with_numbers_used : (m : Machine) → HasOwnerNumbers m → IsGood m → IsGood (record m { given = m.given + 2 })
good_with_numbers_used m few good =
    record { loaders = good.loaders; names = good.names; pools = good.pools; given = few }

-- A sound loader in the place of one with the same chunks.
pub good_with_loader : (m : Machine) (name : ℕ) (loader other : LoaderState) → HasLoader m name loader
    → ((space : Space) → (arena_of space other).chunks ≡ (arena_of space loader).chunks) → IsSoundLoader other
    → IsGood m
    → IsGood (with_loader m name other)
good_with_loader m name loader other found same sound good = record {
  loaders = All-values-set_value (is_at (nat_cmp name)) IsSoundLoader m.loaders other good.loaders sound;
  names = rises_with_changed m.loaders name other good.names;
  pools = λ space. sound_with (pool_of space m) _
      (chunks_with_same space m.loaders name loader other found (same space)) (good.pools space);
  given = good.given;
}

-- A loader unloaded.
pub good_without_loader : (m : Machine) (name : ℕ) (loader : LoaderState) → HasLoader m name loader → IsGood m
    → IsGood (recommitted (record m { loaders = without m.loaders name }))
good_without_loader m name loader found good = record {
  loaders =
      All-map-remove_entry (is_at (nat_cmp name)) (λ (e : ℕ × LoaderState). e.1) IsSoundLoader m.loaders good.loaders;
  names = rises_without m.loaders name good.names;
  pools = recommitted_is_sound rest rest_is_sound
      (omega (arith, fewer NonClass, fewer Class, (good.pools NonClass).granules));
  given = good.given;
}
  where
    rest : Machine
    rest = record m { loaders = without m.loaders name }

    split : Split m.loaders name loader
    split = split_at m.loaders name loader found

    b : Space → List Chunk
    b space = chunks_held space split.before

    a : Space → List Chunk
    a space = chunks_held space split.after

    all : (space : Space) → chunks_held space m.loaders ≡ b space ++ ((arena_of space loader).chunks ++ a space)
    all space = ap (chunks_held space) split.is ∙ chunks_split space split.before split.after name loader

    gone : (space : Space) → chunks_held space (without m.loaders name) ≡ b space ++ a space
    gone space = ap (chunks_held space) split.gone ∙ chunks_joined space split.before split.after

    rest_is_sound : (space : Space) → IsSoundBut (pool_of space rest)
    rest_is_sound space = record {
      held = rw (gone space)
          (held_rest m.limits.policy (slots_in space m) (b space) (arena_of space loader).chunks (a space)
          (rw (all space) at (good.pools space).held));
      slots = (good.pools space).slots;
      below = (good.pools space).below;
      reserved = (good.pools space).reserved;
    }

    now : (space : Space) → List Chunk → ℕ
    now space held = length (committed_with m.limits.policy (committed_in space m) held (slots_in space m))

    fewer : (space : Space) → length (committed_now (pool_of space rest)) ≤ length (committed_in space m)
    fewer space = omega (
      arith,
      ap (now space) (gone space),
      committed_rest m.limits.policy (committed_in space m) (b space) (arena_of space loader).chunks (a space)
          (slots_in space m),
      ap (now space) (all space),
      ap length (good.pools space).committed,
    )

-- Nodes without a chunk purged.
pub good_when_purged : (m : Machine) → IsGood m → IsGood (purged m)
good_when_purged m good = record {
  loaders = good.loaders;
  names = good.names;
  pools = recommitted_is_sound rest rest_is_sound (omega (
    arith,
    (good.pools NonClass).granules,
    fewer_slots (is_committed_now m.limits.policy m.committed held) (granule_of m.limits.policy)
        (has_chunk_in held) m.slots,
    ap length (good.pools NonClass).committed,
    ap length (good.pools Class).committed,
  ));
  given = good.given;
}
  where
    held : List Chunk
    held = chunks_held NonClass m.loaders

    rest : Machine
    rest = record m { slots = filter (has_chunk_in held) m.slots }

    rest_is_sound : (space : Space) → IsSoundBut (pool_of space rest)
    rest_is_sound NonClass = kept_is_sound (pool_of NonClass m) (good.pools NonClass)
    rest_is_sound Class = sound_but (pool_of Class m) (good.pools Class)
