-- Each event leaves a good state, and all that is another loader's.
use Rattle.std.proofs.Common.{◌≡◌, ◌≤◌, ◌+◌, ℕ, Bool, true, false, List, [], ◌∷◌, ◌++◌, length, refl, sym, ap, ◌∙◌}
use Rattle.std.proofs.Common.{subst, arith, length-append}
use Rattle.std.specs.Prelude.{Ok, ◌||◌, nat_le}
use Rattle.std.specs.List.{list_any, list_all, zip, filter, flat_map}
use Rattle.std.specs.List.Sorted.{IsStrictlyIncreasing}
use Rattle.std.proofs.lemmas.List.{append_assoc}
use Rattle.ms_base.specs.declared.kind.Space.{Space}
use Rattle.ms_base.specs.declared.kind.Space.TheVariants.{NonClass, Class}
use Rattle.ms_base.specs.declared.span.Chunk.{Chunk}
use Rattle.ms_base.specs.Interval.{lies_in}
use Rattle.ms_base.specs.Part.{slot_of, is_reserved}
use Rattle.ms_base.specs.Spaces.{other_space, is_in}
use Rattle.ms_base.specs.Committed.{committed_with, is_committed, granules_of}
use Rattle.ms_base.specs.PoolSteps.Pick.{granule_in, has_committed}
use Rattle.ms_base.specs.Names.{with_changed}
use Rattle.ms_base.specs.State.{ArenaState, LoaderState, Machine, arena_of, with_arena, chunks_held, committed_in}
use Rattle.ms_base.specs.State.{pool_of}
use Rattle.ms_base.specs.Live.{runs_in}
use Rattle.ms_base.specs.Good.{topped, IsSound, IsSoundLoader, IsGood}
use Rattle.ms_base.specs.PoolSteps.Causes.{committed_count, granules_missing}
use Rattle.ms_base.specs.PoolSteps.{taken}
use Rattle.ms_base.specs.Place.{with_chunk}
use Rattle.ms_base.specs.Run.Event.{IsAskable, Takes}
use Rattle.ms_base.proofs.entries.EntryLemmas.{Split, split_at}
use Rattle.ms_base.proofs.machine.GoodLemmas.{each_space, chunks_split, loader_is_sound}
use Rattle.ms_base.proofs.machine.AddedLemmas.{MayReserve, IsAddable, slots_then, good_with_chunk}
use Rattle.ms_base.proofs.machine.SlotLemmas.{reserved_with, slots_rise_with}
use Rattle.ms_base.proofs.granules.GranuleCountLemmas.{meets_front, count_with_front, committed_in_slots}
use Rattle.ms_base.proofs.granules.SlotGranuleLemmas.{committed_with_slot}
use Rattle.ms_base.proofs.runs.ApartLemmas.{list_any-with}
use Rattle.ms_base.proofs.arena.BlockLemmas.{arena_there, arena_elsewhere}

-- A chunk that is added last, with no top yet, changes nothing of what is in use.
longer : (chunks : List Chunk) (tops : List ℕ) (chunk : Chunk) → length tops ≤ length chunks
    → zip (chunks ++ chunk ∷ []) tops ≡ zip chunks tops
longer [] [] chunk few = refl
longer [] (t ∷ tops) chunk few = absurd (omega arith)
longer (c ∷ chunks) [] chunk few = refl
longer (c ∷ chunks) (t ∷ tops) chunk few = ap (λ (l : List (Chunk × ℕ)). (c, t) ∷ l)
    (longer chunks tops chunk (omega arith))

sound_with_longer : (arena : ArenaState) (live : List (ℕ × ℕ)) (chunk : Chunk) → IsSound arena live
    → IsSound (with_chunk arena chunk) live
sound_with_longer arena live chunk sound = record {
  apart = sound.apart;
  long = sound.long;
  inside = ap (λ (l : List (Chunk × ℕ)). list_all (λ (run : ℕ × ℕ). list_any
      (λ (used : Chunk × ℕ). lies_in run (used.0.start, used.1)) l) (live ++ arena.kept)) as_before ∙ sound.inside;
  few = omega (arith, sound.few, length-append arena.chunks (chunk ∷ []));
  tops = ap (list_all (λ (used : Chunk × ℕ). nat_le used.1 used.0.front)) as_before ∙ sound.tops;
  kept = sound.kept;
}
  where
    as_before : topped (with_chunk arena chunk) ≡ topped arena
    as_before = longer arena.chunks arena.tops chunk sound.few

-- A loader with a sound arena in the place of its own.
pub sound_with_arena : (space : Space) (loader : LoaderState) (arena : ArenaState)
    → IsSound arena (runs_in space loader.blocks) → IsSoundLoader loader
    → IsSoundLoader (with_arena space loader arena)
sound_with_arena space loader arena its sound = record {
  arenas = each_space (λ (one : Space). IsSound (arena_of one (with_arena space loader arena))
      (runs_in one loader.blocks)) space
      (subst (λ (a : ArenaState). IsSound a (runs_in space loader.blocks)) (sym (arena_there space loader arena)) its)
      (subst (λ (a : ArenaState). IsSound a (runs_in (other_space space) loader.blocks))
      (sym (arena_elsewhere space loader arena)) (sound.arenas (other_space space)));
  names = sound.names;
}

-- That a chunk which is taken may be added, and keeps the limit of granules.
pub record IsAddedWell (space : Space) (m : Machine) (chunk : Chunk) : Type 0 where
  pub addable : IsAddable space m chunk
  pub within : committed_count (pool_of space m) + granules_missing (pool_of space m) chunk ≤ m.limits.granules

abbrev pub TakingIsAddable : Type 0
TakingIsAddable =
    (space : Space) (m : Machine) (p most words : ℕ) (chunk : Chunk) → IsGood m → IsAskable p most words
    → taken (pool_of space m) p most words ≡ Ok chunk → is_in space chunk.start ≡ true → IsAddedWell space m chunk

-- The slots of a space with that of a chunk commit the same.
record StaysCommitted (space : Space) (m : Machine) (start : ℕ) : Type 0 where
  rising : IsStrictlyIncreasing (slots_then space m start)
  reserved : is_reserved (slots_then space m start) (slot_of start) ≡ true
  as_before : filter (has_committed (pool_of space m))
      (flat_map (granules_of (granule_in (pool_of space m))) (slots_then space m start)) ≡ committed_in space m

stays_committed : (space : Space) (m : Machine) (start : ℕ) → MayReserve space m (slot_of start) → IsGood m
    → StaysCommitted space m start
stays_committed NonClass m start may good = record {
  rising = slots_rise_with m.slots (slot_of start) (good.pools NonClass).slots;
  reserved = reserved_with m.slots (slot_of start);
  as_before = committed_with_slot (pool_of NonClass m) (slot_of start) (good.pools NonClass);
}
stays_committed Class m start may good = record {
  rising = (good.pools Class).slots;
  reserved = may;
  as_before = committed_in_slots (pool_of Class m) (good.pools Class);
}

turned : (s t : Bool) → (s || t) ≡ (t || s)
turned true true = refl
turned true false = refl
turned false true = refl
turned false false = refl

-- A chunk that is taken leaves a good state.
pub good_with_taken : TakingIsAddable
    → (space : Space) (old : Machine) (name p most words : ℕ) (chunk : Chunk) (new : Machine) → IsGood old
    → Takes old space name p most words chunk new → IsGood new
good_with_taken addable space old name p most words chunk new good takes =
    subst IsGood (sym takes.after) (good_with_chunk space old name takes.loader other chunk takes.has
    (ap (λ (one : ArenaState). one.chunks) (arena_there space takes.loader longer_arena))
    (ap (λ (one : ArenaState). one.chunks) (arena_elsewhere space takes.loader longer_arena))
    (sound_with_arena space takes.loader longer_arena (sound_with_longer (arena_of space takes.loader)
    (runs_in space takes.loader.blocks) chunk (sound.arenas space)) sound)
    its.addable (omega (arith, count, its.within)) good)
  where
    longer_arena : ArenaState
    longer_arena = with_chunk (arena_of space takes.loader) chunk

    other : LoaderState
    other = with_arena space takes.loader longer_arena

    sound : IsSoundLoader takes.loader
    sound = loader_is_sound old name takes.loader takes.has good

    its : IsAddedWell space old chunk
    its = addable space old p most words chunk good takes.askable takes.answer takes.inside

    slots : StaysCommitted space old chunk.start
    slots = stays_committed space old chunk.start its.addable.slot good

    split : Split old.loaders name takes.loader
    split = split_at old.loaders name takes.loader takes.has

    b : List Chunk
    b = chunks_held space split.before ++ (arena_of space takes.loader).chunks

    a : List Chunk
    a = chunks_held space split.after

    was : chunks_held space old.loaders ≡ b ++ a
    was = ap (chunks_held space) split.is ∙ chunks_split space split.before split.after name takes.loader ∙ sym
        (append_assoc (chunks_held space split.before) (arena_of space takes.loader).chunks a)

    now : chunks_held space (with_changed old.loaders name other) ≡ b ++ chunk ∷ a
    now = ap (chunks_held space) (split.changed other) ∙ chunks_split space split.before split.after name other
        ∙ ap (λ (one : ArenaState). chunks_held space split.before ++ (one.chunks ++ a))
        (arena_there space takes.loader longer_arena)
        ∙ ap (λ (l : List Chunk). chunks_held space split.before ++ l)
        (append_assoc (arena_of space takes.loader).chunks (chunk ∷ []) a)
        ∙ sym (append_assoc (chunks_held space split.before) (arena_of space takes.loader).chunks (chunk ∷ a))

    granule : ℕ
    granule = granule_in (pool_of space old)

    adds : (k : ℕ)
        → is_committed granule (chunks_held space (with_changed old.loaders name other)) k
        ≡ (is_committed granule (chunks_held space old.loaders) k || meets_front granule chunk k)
    adds k = let test : Chunk → Bool = λ c. meets_front granule c k in
        ap (list_any test) now ∙ list_any-with test b chunk a ∙ turned (test chunk) (list_any test (b ++ a)) ∙ ap
        (λ (l : List Chunk). list_any test l || test chunk) (sym was)

    count : length
        (committed_with old.limits.policy (committed_in space old)
        (chunks_held space (with_changed old.loaders name other)) (slots_then space old chunk.start))
        ≡ length (committed_in space old) + granules_missing (pool_of space old) chunk
    count = count_with_front (pool_of space old) (chunks_held space (with_changed old.loaders name other))
        (slots_then space old chunk.start) chunk (good.pools space)
        its.addable.placed its.addable.front.some its.addable.front.within slots.rising slots.reserved slots.as_before
        adds
