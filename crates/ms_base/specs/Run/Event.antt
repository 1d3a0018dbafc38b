-- Events: the atomic steps of which requests over one shared pool are made. A loader stands for its
-- accounts in the pool, one for each space, which are opened together and closed together.
use Rattle.std.specs.Prelude.{◌≡◌, ℕ, ◌-◌, ◌≤◌, ◌⊎◌, Bool, [], length, Option, Some, None, Ok, Err, IsOk, IsTrue}
use Rattle.std.specs.Prelude.{slice_get, slice_set}
use Rattle.ms_base.specs.declared.kind.Kind.{Kind}
use Rattle.ms_base.specs.declared.kind.Space.{Space}
use Rattle.ms_base.specs.declared.kind.Space.TheVariants.{NonClass, Class}
use Rattle.ms_base.specs.declared.span.Chunk.{Chunk}
use Rattle.ms_base.specs.declared.step.Step.{Step}
use Rattle.ms_base.specs.declared.step.Step.TheVariants.{New, Alloc, Calloc, Write, Read, Free, Unload}
use Rattle.ms_base.specs.declared.step.Reply.{Reply}
use Rattle.ms_base.specs.declared.step.Reply.TheVariants.{Ok as Done, At, Value, Refused}
use Rattle.ms_base.specs.declared.refusal.Refusal.{Refusal}
use Rattle.ms_base.specs.declared.refusal.Refusal.TheVariants.{CommitLimit, ReserveLimit, OutOfMemory, IdsUsedUp}
use Rattle.ms_base.specs.Level.{root_words, size_of, highest_level}
use Rattle.ms_base.specs.Spaces.{is_in}
use Rattle.ms_base.specs.Names.{named, without}
use Rattle.ms_base.specs.State.{ArenaState, LoaderState, Machine, PoolState, empty_loader, arena_of, with_arena}
use Rattle.ms_base.specs.State.{slots_in, with_slots, pool_of, recommitted}
use Rattle.ms_base.specs.Live.{block_words}
use Rattle.ms_base.specs.Good.{IsSoundLoader}
use Rattle.ms_base.specs.PoolSteps.{taken, grown, slots_with}
use Rattle.ms_base.specs.Place.{with_chunk}
use Rattle.ms_base.specs.Totals.{PoolSums, pool_sums}
use Rattle.ms_base.specs.Request.{loader_of}
use Rattle.ms_base.specs.Transition.{HasLoader, with_loader, with_allocated, zeroed, purged, Makes, Writes, Reads}
use Rattle.ms_base.specs.Transition.{Frees, IsServable, HasOwnerNumbers, NewCause, Cause}

-- An event: both accounts of a loader are opened, a chunk is taken or grows in a space, both
-- accounts are closed, nodes are purged, or the pool tells its totals; or a loader acts by itself
-- on what is its own, as a request's local event.
pub data Event : Type 0 where
  opening : (name : ℕ) (kind : Kind) → Event
  taking : (space : Space) (name p m words : ℕ) → Event
  growing : (space : Space) (name start total : ℕ) (may_enlarge : Bool) → Event
  closing : (name : ℕ) → Event
  purging : Event
  telling : Space → Event
  acting : Step → Event

-- What an event answers: that it is done, the chunk that is lent, how many nodes went, the pool's
-- sums, a loader's reply, or a refusal of the pool.
pub data Answer : Type 0 where
  accepted : Answer
  lent : Chunk → Answer
  counted : ℕ → Answer
  told : PoolSums → Answer
  replied : Reply → Answer
  refused : Refusal → Answer

-- Both accounts are opened: the loader is there, with nothing of its own.
pub record Opens (old : Machine) (name : ℕ) (kind : Kind) (new : Machine) : Type 0 where
  pub numbers : HasOwnerNumbers old
  pub made : Makes old name (empty_loader kind) new

-- What a chunk is asked for: a level between p and m, and words that a chunk of level m holds.
pub record IsAskable (p m words : ℕ) : Type 0 where
  pub order : p ≤ m
  pub least : m ≤ highest_level
  pub some : 1 ≤ words
  pub fits : words ≤ size_of m

-- A chunk of a space is taken, as the searches pick it: it is the loader's last there, its top 0,
-- and the committed granules follow.
pub record Takes (old : Machine) (space : Space) (name p m words : ℕ) (chunk : Chunk) (new : Machine) : Type 0 where
  pub loader : LoaderState
  pub has : HasLoader old name loader
  pub askable : IsAskable p m words
  pub answer : taken (pool_of space old) p m words ≡ Ok chunk
  pub inside : IsTrue (is_in space chunk.start)
  pub after : new
      ≡ recommitted (with_slots space (with_loader old name
      (with_arena space loader (with_chunk (arena_of space loader) chunk)))
      (slots_with (slots_in space old) chunk.start))

-- Why no chunk is taken: a limit is met, or, where none is, memory is wanting.
abbrev pub LendsNone : PoolState → ℕ → ℕ → ℕ → Refusal → Type 0
LendsNone pool p m words refusal =
    (taken pool p m words ≡ Err refusal) ⊎ (IsOk (taken pool p m words) × (refusal ≡ OutOfMemory))

-- No chunk is taken, and nothing changes.
pub record TakesNone (old : Machine) (space : Space) (name p m words : ℕ) (refusal : Refusal)
    (new : Machine) : Type 0 where
  pub loader : LoaderState
  pub has : HasLoader old name loader
  pub askable : IsAskable p m words
  pub cause : LendsNone (pool_of space old) p m words refusal
  pub after : new ≡ old

-- The arena with another chunk at an index.
abbrev pub with_chunk_at : ArenaState → ℕ → Chunk → ArenaState
with_chunk_at arena index chunk = record arena { chunks = slice_set arena.chunks index chunk }

-- A chunk of a loader's is asked to reach further.
pub record IsAsked (old : Machine) (space : Space) (name start : ℕ) (loader : LoaderState) (index : ℕ)
    (chunk : Chunk) : Type 0 where
  pub has : HasLoader old name loader
  pub found : slice_get (arena_of space loader).chunks index ≡ Some chunk
  pub starts : chunk.start ≡ start

-- It does, as the rule for growing says, and the committed granules follow.
pub record GrowsChunk (old : Machine) (space : Space) (name start total : ℕ) (may_enlarge : Bool) (chunk : Chunk)
    (new : Machine) : Type 0 where
  pub loader : LoaderState
  pub index : ℕ
  pub was : Chunk
  pub asked : IsAsked old space name start loader index was
  pub answer : grown (pool_of space old) was total may_enlarge ≡ Ok chunk
  pub after : new ≡ recommitted (with_loader old name
      (with_arena space loader (with_chunk_at (arena_of space loader) index chunk)))

-- It doesn't, and nothing changes.
pub record GrowsNone (old : Machine) (space : Space) (name start total : ℕ) (may_enlarge : Bool) (refusal : Refusal)
    (new : Machine) : Type 0 where
  pub loader : LoaderState
  pub index : ℕ
  pub was : Chunk
  pub asked : IsAsked old space name start loader index was
  pub cause : grown (pool_of space old) was total may_enlarge ≡ Err refusal
  pub after : new ≡ old

-- Both accounts of a loader are closed that has neither live nor free blocks: its chunks go with
-- it, and the committed granules follow.
pub record Closes (old : Machine) (name : ℕ) (new : Machine) : Type 0 where
  pub loader : LoaderState
  pub has : HasLoader old name loader
  pub blocks : loader.blocks ≡ []
  pub kept : (space : Space) → (arena_of space loader).kept ≡ []
  pub after : new ≡ recommitted (record old { loaders = without old.loaders name })

-- Nodes without a chunk are purged, and their number told.
pub record Purges (old : Machine) (nodes : ℕ) (new : Machine) : Type 0 where
  pub nodes_are : nodes ≡ length old.slots - length new.slots
  pub after : new ≡ purged old

-- The pool tells the sums of a space, each loader having an account there, and nothing changes.
pub record Tells (old : Machine) (space : Space) (sums : PoolSums) (new : Machine) : Type 0 where
  pub sums_are : sums ≡ pool_sums (pool_of space old) (length old.loaders)
  pub after : new ≡ old

-- A block is added to a loader, new zeros in a space: its chunks stay. Where it lies, which tops of
-- that space rise and what is kept there are left open: the loader is sound then.
pub record AddsBlock (space : Space) (block words start : ℕ) (old new : LoaderState) : Type 0 where
  pub arena : ArenaState
  pub unused : named old.blocks block ≡ None
  pub inside : IsTrue (is_in space start)
  pub chunks : arena.chunks ≡ (arena_of space old).chunks
  pub after : new ≡ with_allocated space old arena block (zeroed start (block_words words))

-- The local event of an allocation that is served.
pub record PlacesBlock (old : Machine) (space : Space) (name block words start : ℕ) (new : Machine) : Type 0 where
  pub some : 1 ≤ words
  pub fits : words ≤ root_words
  pub before : LoaderState
  pub with_it : LoaderState
  pub has : HasLoader old name before
  pub adds : AddsBlock space block words start before with_it
  pub after : new ≡ with_loader old name with_it

-- The loader without live and free blocks; its chunks and their tops stay until it is closed.
abbrev pub emptied : LoaderState → LoaderState
emptied loader = record loader {
  arena = record loader.arena { kept = [] };
  class_arena = record loader.class_arena { kept = [] };
  blocks = [];
}

-- The local event of an unload.
pub record Empties (old : Machine) (name : ℕ) (new : Machine) : Type 0 where
  pub loader : LoaderState
  pub has : HasLoader old name loader
  pub after : new ≡ with_loader old name (emptied loader)

-- What a request's local event changes where it is served, and the reply.
abbrev pub Acts : Machine → Step → Reply → Machine → Type 0
Acts old (Alloc name block words) (At start) new = PlacesBlock old NonClass name block words start new
Acts old (Calloc name block words) (At start) new = PlacesBlock old Class name block words start new
Acts old (Write name block index value) Done new = Writes old name block index value new
Acts old (Read name block index) (Value value) new = Reads old name block index value new
Acts old (Free name block) Done new = Frees old name block new
Acts old (Unload name) Done new = Empties old name new
Acts old _ _ new = ⊥

-- Why a request's local event is refused: as the request is, but that limits are passed on as the
-- pool told them, and that the pool alone knows of owner numbers.
abbrev pub ActsNotCause : Machine → Step → Refusal → Type 0
ActsNotCause m (New name kind) IdsUsedUp = ⊥
ActsNotCause m (Alloc name block words) (CommitLimit committed limit need) = IsServable m name block words
ActsNotCause m (Alloc name block words) (ReserveLimit nodes limit) = IsServable m name block words
ActsNotCause m (Calloc name block words) (CommitLimit committed limit need) = IsServable m name block words
ActsNotCause m (Calloc name block words) (ReserveLimit nodes limit) = IsServable m name block words
ActsNotCause m step refusal = Cause m step refusal

-- The loader that the request names is sound.
abbrev pub IsSoundAfter : Machine → Step → Type 0
IsSoundAfter m step =
    (name : ℕ) (loader : LoaderState) → loader_of step ≡ Some name → HasLoader m name loader → IsSoundLoader loader

-- From old, the event may happen with this answer, and leave new.
abbrev pub Happens : Machine → Event → Answer → Machine → Type 0
Happens old (opening name kind) accepted new = Opens old name kind new
Happens old (opening name kind) (refused IdsUsedUp) new = NewCause old name IdsUsedUp × (new ≡ old)
Happens old (taking space name p m words) (lent chunk) new = Takes old space name p m words chunk new
Happens old (taking space name p m words) (refused refusal) new = TakesNone old space name p m words refusal new
Happens old (growing space name start total may_enlarge) (lent chunk) new =
    GrowsChunk old space name start total may_enlarge chunk new
Happens old (growing space name start total may_enlarge) (refused refusal) new =
    GrowsNone old space name start total may_enlarge refusal new
Happens old (closing name) accepted new = Closes old name new
Happens old purging (counted nodes) new = Purges old nodes new
Happens old (telling space) (told sums) new = Tells old space sums new
Happens old (acting step) (replied (Refused refusal)) new = ActsNotCause old step refusal × (new ≡ old)
Happens old (acting step) (replied reply) new = Acts old step reply new × IsSoundAfter new step
Happens old _ _ new = ⊥

-- The loader whose event it is; purging and telling are no loader's.
abbrev pub loader_of_event : Event → Option ℕ
loader_of_event (opening name kind) = Some name
loader_of_event (taking space name p m words) = Some name
loader_of_event (growing space name start total may_enlarge) = Some name
loader_of_event (closing name) = Some name
loader_of_event (acting step) = loader_of step
loader_of_event _ = None
