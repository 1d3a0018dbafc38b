-- A chunk that grows leaves a good state.
use Rattle.std.proofs.Common.{Bool, ◌≡◌, ◌≤◌, ◌+◌, ℕ, suc, zero, Some, List, [], ◌∷◌, ◌++◌, length, refl, sym, ap, ◌∙◌}
use Rattle.std.proofs.Common.{subst, arith, inl, inr}
use Rattle.std.specs.Prelude.{slice_get, slice_set}
use Rattle.std.specs.Ordering.{nat_cmp}
use Rattle.std.specs.List.{Contains}
use Rattle.std.specs.BTreeMap.{is_at}
use Rattle.std.proofs.lemmas.Map.Steps.{set_value_same}
use Rattle.ms_base.specs.declared.kind.Space.{Space}
use Rattle.ms_base.specs.declared.kind.Space.TheVariants.{NonClass, Class}
use Rattle.ms_base.specs.declared.span.Chunk.{Chunk}
use Rattle.ms_base.specs.Spaces.{other_space}
use Rattle.ms_base.specs.Names.{with_changed}
use Rattle.ms_base.specs.State.{ArenaState, LoaderState, Machine, PoolState, arena_of, with_arena, chunks_held}
use Rattle.ms_base.specs.State.{slots_in, committed_in, committed_now, pool_of, recommitted}
use Rattle.ms_base.specs.Live.{runs_in}
use Rattle.ms_base.specs.Good.{IsSoundLoader, IsGood}
use Rattle.ms_base.specs.PoolSteps.Causes.{granules_missing}
use Rattle.ms_base.specs.Transition.{with_loader, IsGrown}
use Rattle.ms_base.specs.Laws.Sum.{GrowsWell, with_chunk_grown}
use Rattle.ms_base.specs.Run.Event.{GrowsChunk, with_chunk_at}
use Rattle.ms_base.proofs.entries.EntryLemmas.{Split, split_at}
use Rattle.ms_base.proofs.machine.GoodLemmas.{chunks_split, loader_is_sound}
use Rattle.ms_base.proofs.machine.ChangeLemmas.{changed, slots_same, recommitted_same}
use Rattle.ms_base.proofs.granules.GranuleGrowingLemmas.{growing_commits_the_missing, growing_keeps_the_limit}
use Rattle.ms_base.proofs.granules.GranuleGrowingLemmas.{growing_is_clear}
use Rattle.ms_base.proofs.arena.BlockLemmas.{arena_there, arena_elsewhere}
use Rattle.ms_base.proofs.arena.GrownLemmas.{grown_is_sound, good_with_grown}
use Rattle.ms_base.proofs.events.KeptEventLemmas.{sound_with_arena}

-- An index among chunks, with others before and after.
found_later : (first xs : List Chunk) (index : ℕ) → slice_get (first ++ xs) (length first + index) ≡ slice_get xs index
found_later [] xs index = let same : 0 + index ≡ index = omega arith in ap (slice_get xs) same
found_later (c ∷ first) xs index =
    let more : suc (length first) + index ≡ suc (length first + index) = omega arith in
    ap (slice_get (c ∷ (first ++ xs))) more ∙ found_later first xs index

found_before : (xs last : List Chunk) (index : ℕ) (chunk : Chunk) → slice_get xs index ≡ Some chunk
    → slice_get (xs ++ last) index ≡ Some chunk
found_before [] last index chunk found = absurd (cc)
found_before (c ∷ xs) last zero chunk found = found
found_before (c ∷ xs) last (suc index) chunk found = found_before xs last index chunk found

set_later : (first xs : List Chunk) (index : ℕ) (chunk : Chunk)
    → slice_set (first ++ xs) (length first + index) chunk ≡ first ++ slice_set xs index chunk
set_later [] xs index chunk = let same : 0 + index ≡ index = omega arith in ap (λ (n : ℕ). slice_set xs n chunk) same
set_later (c ∷ first) xs index chunk =
    let more : suc (length first) + index ≡ suc (length first + index) = omega arith in
    ap (λ (n : ℕ). slice_set (c ∷ (first ++ xs)) n chunk) more ∙ ap (λ (l : List Chunk). c ∷ l)
    (set_later first xs index chunk)

set_before : (xs last : List Chunk) (index : ℕ) (was chunk : Chunk) → slice_get xs index ≡ Some was
    → slice_set (xs ++ last) index chunk ≡ slice_set xs index chunk ++ last
set_before [] last index was chunk found = absurd (cc)
set_before (c ∷ xs) last zero was chunk found = refl
set_before (c ∷ xs) last (suc index) was chunk found = ap (λ (l : List Chunk). c ∷ l)
    (set_before xs last index was chunk found)

pub set_same : (xs : List Chunk) (index : ℕ) (chunk : Chunk) → slice_get xs index ≡ Some chunk
    → slice_set xs index chunk ≡ xs
set_same [] index chunk found = absurd (cc)
set_same (c ∷ xs) zero chunk found = let its : chunk ≡ c = cc in ap (λ (d : Chunk). d ∷ xs) its
set_same (c ∷ xs) (suc index) chunk found = ap (λ (l : List Chunk). c ∷ l) (set_same xs index chunk found)

is_there : (xs : List Chunk) (index : ℕ) (chunk : Chunk) → slice_get xs index ≡ Some chunk → Contains xs chunk
is_there [] index chunk found = absurd (cc)
is_there (c ∷ xs) zero chunk found = (0, omega arith, cc)
is_there (c ∷ xs) (suc index) chunk found = let rest = is_there xs index chunk found in
    (suc rest.0, omega (arith, rest.1), rest.2)

pub same_arena : (space : Space) (loader : LoaderState) → with_arena space loader (arena_of space loader) ≡ loader
same_arena NonClass loader = refl
same_arena Class loader = refl

-- It is one that the pool holds.
module _ (space : Space) (old : Machine) (name start total : ℕ) (may_enlarge : Bool) (chunk : Chunk) (new : Machine)
    (good : IsGood old) (grows : GrowsChunk old space name start total may_enlarge chunk new) where
  abbrev split : Split old.loaders name grows.loader
  split = split_at old.loaders name grows.loader grows.asked.has

  abbrev first : List Chunk
  first = chunks_held space split.before

  abbrev last : List Chunk
  last = chunks_held space split.after

  abbrev own : List Chunk
  own = (arena_of space grows.loader).chunks

  abbrev index : ℕ
  index = length first + grows.index

  held_was : chunks_held space old.loaders ≡ first ++ (own ++ last)
  held_was = ap (chunks_held space) split.is ∙ chunks_split space split.before split.after name grows.loader

  at_index : slice_get (chunks_held space old.loaders) index ≡ Some grows.was
  at_index = ap (λ (l : List Chunk). slice_get l index) held_was ∙ found_later first (own ++ last) grows.index
      ∙ found_before own last grows.index grows.was grows.asked.found

  is_held : Contains (chunks_held space old.loaders) grows.was
  is_held = is_there (chunks_held space old.loaders) index grows.was at_index

  pub grows_well : GrowsWell (pool_of space old) grows.was chunk total
  grows_well = growing_keeps_the_limit (pool_of space old) grows.was chunk total may_enlarge
      (good.pools space) is_held grows.answer

-- A chunk that grows leaves a good state: it stays, or it is a greater one of this loader's.
pub good_with_greater : (space : Space) (old : Machine) (name start total : ℕ) (may_enlarge : Bool) (chunk : Chunk)
    (new : Machine)
    → IsGood old → GrowsChunk old space name start total may_enlarge chunk new → IsGood new
good_with_greater space old name start total may_enlarge chunk new good grows = subst IsGood (sym grows.after)
    (elim well.changes [
      | inl same ↦ subst IsGood (sym (unchanged same)) good
      | inr more ↦ subst IsGood (ap recommitted (slots_same space (with_loader old name other)))
          (good_with_grown space old name loader other grows.index grows.was chunk grows.asked.has grows.asked.found
          (ap (λ (one : ArenaState). one.chunks) (arena_there space loader greater))
          (ap (λ (one : ArenaState). one.chunks) (arena_elsewhere space loader greater))
          (sound_with_arena space loader greater (grown_is_sound arena
          (runs_in space loader.blocks) grows.index grows.was chunk grows.asked.found more.start
          (omega (arith, more.front)) (sound.arenas space)) sound)
          well.placed well.front_rule more.start (growing_is_clear pool grows.was chunk total may_enlarge
          (good.pools space) (is_held space old name start total may_enlarge chunk new good grows) grows.answer)
          (few more) good)
    ])
  where
    loader : LoaderState
    loader = grows.loader

    arena : ArenaState
    arena = arena_of space loader

    greater : ArenaState
    greater = with_chunk_at arena grows.index chunk

    other : LoaderState
    other = with_arena space loader greater

    pool : PoolState
    pool = pool_of space old

    around : Split old.loaders name loader
    around = split space old name start total may_enlarge chunk new good grows

    before : List Chunk
    before = chunks_held space around.before

    after : List Chunk
    after = chunks_held space around.after

    there : ℕ
    there = length before + grows.index

    sound : IsSoundLoader loader
    sound = loader_is_sound old name loader grows.asked.has good

    now : chunks_held space (with_changed old.loaders name other)
        ≡ slice_set (chunks_held space old.loaders) there chunk
    now = ap (chunks_held space) (around.changed other) ∙ chunks_split space around.before around.after name other
        ∙ ap (λ (one : ArenaState). before ++ (one.chunks ++ after)) (arena_there space loader greater)
        ∙ sym (ap (λ (l : List Chunk). slice_set l there chunk)
        (held_was space old name start total may_enlarge chunk new good grows) ∙ set_later before
        (arena.chunks ++ after) grows.index chunk
        ∙ ap (λ (l : List Chunk). before ++ l)
        (set_before arena.chunks after grows.index grows.was chunk grows.asked.found))

    well : GrowsWell pool grows.was chunk total
    well = grows_well space old name start total may_enlarge chunk new good grows

    unchanged : chunk ≡ grows.was → recommitted (with_loader old name other) ≡ old
    unchanged same =
        ap (λ (l : List Chunk). recommitted
        (with_loader old name (with_arena space loader (record arena { chunks = l }))))
        (ap (slice_set arena.chunks grows.index) same ∙ set_same arena.chunks grows.index grows.was grows.asked.found)
        ∙ ap (λ (one : LoaderState). recommitted (with_loader old name one)) (same_arena space loader)
        ∙ ap (λ (l : List (ℕ × LoaderState)). recommitted (record old { loaders = l }))
        (set_value_same (is_at (nat_cmp name)) old.loaders loader grows.asked.has)
        ∙ recommitted_same old good

    count : IsGrown grows.was chunk
        → length (committed_now (with_chunk_grown pool there chunk))
        ≡ length (committed_in space old) + granules_missing pool chunk
    count more = growing_commits_the_missing pool there grows.was chunk (good.pools space)
        (at_index space old name start total may_enlarge chunk new good grows) more well.placed well.front_rule.within

    few : IsGrown grows.was chunk
        → length (committed_now (pool_of space (changed space old name other (slots_in space old))))
        + length (committed_in (other_space space) old) ≤ old.limits.granules
    few more = omega (
      arith,
      ap (λ (m : Machine). length (committed_now (pool_of space m))) (slots_same space (with_loader old name other)),
      ap (λ (l : List Chunk). length (committed_now (record pool { held = l }))) now,
      count more,
      well.within,
    )
