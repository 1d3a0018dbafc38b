-- The steps of the interval machine: what a request may do, and why it may be refused.
use Rattle.std.specs.Prelude.{◌≡◌, ℕ, ◌+◌, ◌<◌, ◌≤◌, ◌^◌, ◌⊎◌, List, [], ◌∷◌, ◌++◌, length, replicate, slice_get}
use Rattle.std.specs.Prelude.{slice_set, Some, None, IsTrue}
use Rattle.std.specs.List.{filter}
use Rattle.ms_base.specs.declared.kind.Space.{Space}
use Rattle.ms_base.specs.declared.kind.Space.TheVariants.{NonClass, Class}
use Rattle.ms_base.specs.declared.policy.Policy.{Policy}
use Rattle.ms_base.specs.declared.span.Chunk.{Chunk}
use Rattle.ms_base.specs.Live.{LiveBlock}
use Rattle.ms_base.specs.declared.step.Step.{Step}
use Rattle.ms_base.specs.declared.step.Step.TheVariants.{New, Alloc, Calloc, Write, Read, Free, Unload, Purge}
use Rattle.ms_base.specs.declared.step.Reply.{Reply}
use Rattle.ms_base.specs.declared.step.Reply.TheVariants.{Ok as Done, At, Value, Refused}
use Rattle.ms_base.specs.declared.refusal.Refusal.{Refusal}
use Rattle.ms_base.specs.declared.refusal.Refusal.TheVariants.{ZeroWords, TooLarge, CommitLimit, ReserveLimit}
use Rattle.ms_base.specs.declared.refusal.Refusal.TheVariants.{OutOfRange, OutOfMemory, NoLoader, LoaderExists, NoBlock}
use Rattle.ms_base.specs.declared.refusal.Refusal.TheVariants.{BlockExists, IdsUsedUp}
use Rattle.ms_base.specs.Level.{root_words, size_of, level_that_holds}
use Rattle.ms_base.specs.Spaces.{is_in, space_at}
use Rattle.ms_base.specs.Held.{has_chunk_in}
use Rattle.ms_base.specs.Names.{named, with_new, with_changed, without}
use Rattle.ms_base.specs.Front.{front_for}
use Rattle.ms_base.specs.PoolSteps.{slots_with}
use Rattle.ms_base.specs.PoolSteps.Causes.{ReserveCause, CommitCause}
use Rattle.ms_base.specs.State.{ArenaState, LoaderState, Machine, empty_loader, arena_of, with_arena, chunks_held}
use Rattle.ms_base.specs.State.{slots_in, with_slots, pool_of, recommitted}
use Rattle.ms_base.specs.Live.{block_words}
use Rattle.ms_base.specs.Asks.{wanted_level}
use Rattle.ms_base.specs.Good.{IsGood}

-- The loader of that name is this one.
abbrev pub HasLoader : Machine → ℕ → LoaderState → Type 0
HasLoader m name loader = named m.loaders name ≡ Some loader

-- No loader has the name.
abbrev pub LacksLoader : Machine → ℕ → Type 0
LacksLoader m name = named m.loaders name ≡ None

-- The loader of that name has this block under its name.
pub record HasBlock (m : Machine) (name block : ℕ) (loader : LoaderState) (found : LiveBlock) : Type 0 where
  pub loader_is : HasLoader m name loader
  pub block_is : named loader.blocks block ≡ Some found

-- The loader of that name has no block of that name.
pub record LacksBlock (m : Machine) (name block : ℕ) : Type 0 where
  pub loader : LoaderState
  pub loader_is : HasLoader m name loader
  pub unused : named loader.blocks block ≡ None

-- The machine with another loader under the name.
abbrev pub with_loader : Machine → ℕ → LoaderState → Machine
with_loader m name loader = record m { loaders = with_changed m.loaders name loader }

-- The loader with another block under the name.
abbrev pub with_block : LoaderState → ℕ → LiveBlock → LoaderState
with_block loader name block = record loader { blocks = with_changed loader.blocks name block }

-- A new block: so many words from the start on, each of them 0.
abbrev pub zeroed : ℕ → ℕ → LiveBlock
zeroed start words = record { start = start; contents = replicate words 0 }

-- A chunk grows in place: its front rises, or it becomes its parent, as a leader alone can, with a
-- greater front.
pub record IsGrown (old new : Chunk) : Type 0 where
  pub start : new.start ≡ old.start
  pub level : (new.level ≡ old.level) ⊎ (old.level ≡ new.level + 1)
  pub front : old.front < new.front

-- An arena's chunks and the reserved slots of its space, as a request for n words may change them.
pub record Change : Type 0 where
  pub chunks : List Chunk
  pub slots : List ℕ

-- One chunk grows in place.
pub record GrowsOne (old new : Change) : Type 0 where
  pub index : ℕ
  pub was : Chunk
  pub is : Chunk
  pub found : slice_get old.chunks index ≡ Some was
  pub grown : IsGrown was is
  pub chunks : new.chunks ≡ slice_set old.chunks index is
  pub slots : new.slots ≡ old.slots

-- One chunk is added last, in a reserved slot or in one that is reserved for it.
pub record AddsOne (policy : Policy) (n : ℕ) (old new : Change) : Type 0 where
  pub added : Chunk
  pub front : added.front ≡ front_for policy (size_of added.level) n
  pub chunks : new.chunks ≡ old.chunks ++ added ∷ []
  pub slots : new.slots ≡ slots_with old.slots added.start

-- A request for n words leaves the chunks, grows one, or adds one.
abbrev pub MayChange : Policy → ℕ → Change → Change → Type 0
MayChange policy n old new = (new ≡ old) ⊎ GrowsOne old new ⊎ AddsOne policy n old new

-- The loader with a new block of zeros, and another arena in a space.
abbrev pub with_allocated : Space → LoaderState → ArenaState → ℕ → LiveBlock → LoaderState
with_allocated space loader arena name block =
    with_arena space (record loader { blocks = with_new loader.blocks name block }) arena

-- An allocation that is served in a space: the loader has one block more, new zeros in that space,
-- and its arena there may change as above; the committed granules follow. Where the block lies,
-- which tops rise and what is kept are left open: the good state says that it fits.
pub record Allocates (old : Machine) (space : Space) (name block words start : ℕ) (new : Machine) : Type 0 where
  pub some : 1 ≤ words
  pub fits : words ≤ root_words
  pub before : LoaderState
  pub arena : ArenaState
  pub slots : List ℕ
  pub found : HasLoader old name before
  pub unused : named before.blocks block ≡ None
  pub inside : IsTrue (is_in space start)
  pub changes : MayChange old.limits.policy (block_words words)
      (record { chunks = (arena_of space before).chunks; slots = slots_in space old })
      (record { chunks = arena.chunks; slots = slots })
  pub after : new
      ≡ recommitted (with_slots space (with_loader old name
      (with_allocated space before arena block (zeroed start (block_words words)))) slots)

-- A word of a block is written.
pub record Writes (old : Machine) (name block index value : ℕ) (new : Machine) : Type 0 where
  pub loader : LoaderState
  pub found : LiveBlock
  pub has : HasBlock old name block loader found
  pub within : index < length found.contents
  pub after : new ≡ with_loader old name
      (with_block loader block (record found { contents = slice_set found.contents index value }))

-- A word of a block is read.
pub record Reads (old : Machine) (name block index value : ℕ) (new : Machine) : Type 0 where
  pub loader : LoaderState
  pub found : LiveBlock
  pub has : HasBlock old name block loader found
  pub word : slice_get found.contents index ≡ Some value
  pub after : new ≡ old

-- The loader without a block, and with other free blocks in a space.
abbrev pub with_freed : Space → LoaderState → ℕ → List (ℕ × ℕ) → LoaderState
with_freed space loader name kept =
    with_arena space (record loader { blocks = without loader.blocks name })
    (record (arena_of space loader) { kept = kept })

-- A block is freed: it is live no more, and what the arena of its space keeps may change.
pub record Frees (old : Machine) (name block : ℕ) (new : Machine) : Type 0 where
  pub loader : LoaderState
  pub found : LiveBlock
  pub kept : List (ℕ × ℕ)
  pub has : HasBlock old name block loader found
  pub after : new ≡ with_loader old name (with_freed (space_at found.start) loader block kept)

-- A loader is unloaded: all that was its own goes with it, and the committed granules follow.
pub record Unloads (old : Machine) (name : ℕ) (new : Machine) : Type 0 where
  pub loader : LoaderState
  pub has : HasLoader old name loader
  pub after : new ≡ recommitted (record old { loaders = without old.loaders name })

-- A loader is made, with nothing of its own but an owner number for each of its arenas.
pub record Makes (old : Machine) (name : ℕ) (loader : LoaderState) (new : Machine) : Type 0 where
  pub unused : LacksLoader old name
  pub after : new ≡ record old { loaders = with_new old.loaders name loader; given = old.given + 2 }

-- The nodes without a chunk go, and their granules; the class space's nodes stay.
abbrev pub purged : Machine → Machine
purged m = recommitted (record m { slots = filter (has_chunk_in (chunks_held NonClass m.loaders)) m.slots })

-- What each request that is served changes, and what it is answered. No other reply is given.
abbrev pub ServesStep : Machine → Step → Reply → Machine → Type 0
ServesStep old (New name kind) Done new = Makes old name (empty_loader kind) new
ServesStep old (Alloc name block words) (At start) new = Allocates old NonClass name block words start new
ServesStep old (Calloc name block words) (At start) new = Allocates old Class name block words start new
ServesStep old (Write name block index value) Done new = Writes old name block index value new
ServesStep old (Read name block index) (Value value) new = Reads old name block index value new
ServesStep old (Free name block) Done new = Frees old name block new
ServesStep old (Unload name) Done new = Unloads old name new
ServesStep old Purge Done new = new ≡ purged old
ServesStep old _ _ new = ⊥

-- A loader has the name already.
pub record LoaderIsThere (m : Machine) (name : ℕ) : Type 0 where
  pub loader : LoaderState
  pub has : HasLoader m name loader

-- The loader has a block of the name already.
pub record BlockIsThere (m : Machine) (name block : ℕ) : Type 0 where
  pub loader : LoaderState
  pub found : LiveBlock
  pub has : HasBlock m name block loader found

-- The index is past the block, which has so many words.
pub record IsPast (m : Machine) (name block index words : ℕ) : Type 0 where
  pub loader : LoaderState
  pub found : LiveBlock
  pub has : HasBlock m name block loader found
  pub words_are : words ≡ length found.contents
  pub past : words ≤ index

-- The request names a loader, a new block, and a number of words that a chunk can hold.
pub record IsServable (m : Machine) (name block words : ℕ) : Type 0 where
  pub lacks : LacksBlock m name block
  pub some : 1 ≤ words
  pub fits : words ≤ root_words

-- Two owner numbers are left of 1 to 2^32 - 1, one for each of a loader's arenas.
abbrev pub HasOwnerNumbers : Machine → Type 0
HasOwnerNumbers m = m.given + 2 < 2 ^ 32

-- Why a loader is not made, in the order of the checks: the name is taken, fewer than two owner
-- numbers are left, memory is wanting.
abbrev pub NewCause : Machine → ℕ → Refusal → Type 0
NewCause m name LoaderExists = LoaderIsThere m name
NewCause m name IdsUsedUp = LacksLoader m name × (2 ^ 32 ≤ m.given + 2)
NewCause m name OutOfMemory = LacksLoader m name × HasOwnerNumbers m
NewCause m name _ = ⊥

-- The commit limit is met by a loader's request for so many words in a space, with these numbers.
pub record CommitsTooMuch (m : Machine) (space : Space) (name words committed limit need : ℕ) : Type 0 where
  pub loader : LoaderState
  pub has : HasLoader m name loader
  pub cause : CommitCause (pool_of space m) (wanted_level loader.kind space (arena_of space loader) words)
      (level_that_holds words) words committed limit need

-- Why a block is not allocated in a space, in the order of the checks.
abbrev pub AllocCause : Machine → Space → ℕ → ℕ → ℕ → Refusal → Type 0
AllocCause m space name block words NoLoader = LacksLoader m name
AllocCause m space name block words BlockExists = BlockIsThere m name block
AllocCause m space name block words ZeroWords = LacksBlock m name block × (words ≡ 0)
AllocCause m space name block words TooLarge = LacksBlock m name block × (root_words < words)
AllocCause m space name block words (ReserveLimit nodes limit) =
    IsServable m name block words × ReserveCause (pool_of space m) (level_that_holds (block_words words)) nodes limit
AllocCause m space name block words (CommitLimit committed limit need) =
    IsServable m name block words × CommitsTooMuch m space name (block_words words) committed limit need
AllocCause m space name block words OutOfMemory = IsServable m name block words
AllocCause m space name block words _ = ⊥

-- Why a named block is not found, or has no such word.
abbrev pub BlockCause : Machine → ℕ → ℕ → Refusal → Type 0
BlockCause m name block NoLoader = LacksLoader m name
BlockCause m name block NoBlock = LacksBlock m name block
BlockCause m name block _ = ⊥

abbrev pub WordCause : Machine → ℕ → ℕ → ℕ → Refusal → Type 0
WordCause m name block index (OutOfRange words) = IsPast m name block index words
WordCause m name block index refusal = BlockCause m name block refusal

-- Why a request may be refused.
abbrev pub Cause : Machine → Step → Refusal → Type 0
Cause m (New name kind) refusal = NewCause m name refusal
Cause m (Alloc name block words) refusal = AllocCause m NonClass name block words refusal
Cause m (Calloc name block words) refusal = AllocCause m Class name block words refusal
Cause m (Write name block index value) refusal = WordCause m name block index refusal
Cause m (Read name block index) refusal = WordCause m name block index refusal
Cause m (Free name block) refusal = BlockCause m name block refusal
Cause m (Unload name) NoLoader = LacksLoader m name
Cause m (Unload name) _ = ⊥
Cause m Purge _ = ⊥

-- What a refusal leaves: all as it was, but that a loader which was refused for want of memory may
-- have used up its owner numbers.
abbrev pub Leaves : Machine → Step → Refusal → Machine → Type 0
Leaves old (New name kind) OutOfMemory new = (new ≡ old) ⊎ (new ≡ record old { given = old.given + 2 })
Leaves old _ _ new = new ≡ old

-- From old, the machine may give this reply to the request and go on to new.
abbrev pub Transition : Machine → Step → Reply → Machine → Type 0
Transition old step (Refused refusal) new = Cause old step refusal × Leaves old step refusal new
Transition old step reply new = ServesStep old step reply new × IsGood new
