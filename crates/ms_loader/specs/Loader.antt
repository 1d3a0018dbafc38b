-- A loader as its callers see it, and what its calls do.
use Rattle.std.specs.Prelude.{◌≡◌, ℕ, ◌<◌, ◌≤◌, ◌⊎◌, length, slice_get, slice_set, Some, None, Result, Ok, Err, IsTrue}
use Rattle.ms_base.specs.declared.policy.Policy.{Policy}
use Rattle.ms_base.specs.declared.kind.Kind.{Kind}
use Rattle.ms_base.specs.declared.kind.Space.{Space}
use Rattle.ms_base.specs.declared.span.Block.{Block}
use Rattle.ms_base.specs.Live.{LiveBlock}
use Rattle.ms_base.specs.declared.refusal.Refusal.{Refusal}
use Rattle.ms_base.specs.declared.refusal.Refusal.TheVariants.{OutOfRange, NoBlock, BlockExists}
use Rattle.ms_base.specs.Spaces.{by_space, is_in, space_at}
use Rattle.ms_base.specs.Names.{named, with_new}
use Rattle.ms_base.specs.State.{LoaderState, empty_loader, arena_of}
use Rattle.ms_base.specs.Good.{IsSoundLoader}
use Rattle.ms_base.specs.Transition.{with_block, with_allocated, with_freed, zeroed}
use Rattle.ms_pool.specs.Account.{AccountState, AreChunks}
use Rattle.ms_pool.specs.Source.{IsTakeRefusal}
use Rattle.ms_arena.specs.Arena.{ArenaView, PlaceRefused}
use Rattle.ms_arena.specs.Alloc.{TakeRelation, GrowRelation, Allocates}

-- A loader has an owner's number in each space, and its state in the machine.
pub record LoaderView : Type 0 where
  pub owner : ℕ
  pub class_owner : ℕ
  pub state : LoaderState

-- The loader with another state.
abbrev pub with_state : LoaderView → LoaderState → LoaderView
with_state loader state = record loader { state = state }

-- A loader's owner in a space, and its account there.
abbrev pub owner_in : Space → LoaderView → ℕ
owner_in space loader = by_space space loader.owner loader.class_owner

abbrev pub account_in : Space → LoaderView → AccountState
account_in space loader =
    record { owner = owner_in space loader; space = space; chunks = (arena_of space loader.state).chunks }

-- A loader that has nothing yet but its accounts.
abbrev pub new_loader : AccountState → AccountState → Kind → LoaderView
new_loader account class_account kind =
    record { owner = account.owner; class_owner = class_account.owner; state = empty_loader kind }

-- What is true of every loader: its state is sound, and its chunks are an account's in each space.
pub record IsSoundView (loader : LoaderView) : Type 0 where
  pub sound : IsSoundLoader loader.state
  pub chunks : (space : Space) → AreChunks space (arena_of space loader.state).chunks

-- The loader's arena of a space, but for its live blocks.
pub record IsArenaOf (space : Space) (loader : LoaderView) (arena : ArenaView) : Type 0 where
  pub owner : arena.owner ≡ owner_in space loader
  pub space_is : arena.space ≡ space
  pub kind : arena.kind ≡ loader.state.kind
  pub books : arena.books ≡ arena_of space loader.state

-- A loader with a new block of zeros in a space, or as it was, by what its arena answered.
abbrev pub AfterAlloc : Space → LoaderView → ℕ → ArenaView → Result Block Refusal → LoaderView → Type 0
AfterAlloc space old name arena (Ok block) new =
    IsTrue (is_in space block.start)
    × (new ≡ with_state old (with_allocated space old.state arena.books name (zeroed block.start block.words)))
AfterAlloc space old name arena (Err refusal) new = new ≡ old

-- The name is new, and the arena of the space is asked.
pub record AsksArena {S : Type 0} (grew : GrowRelation S) (took : TakeRelation S) (policy : Policy) (space : Space)
    (old : LoaderView) (name words : ℕ) (before : S) (answer : Result Block Refusal) (new : LoaderView)
    (after : S) : Type 0 where
  pub unused : named old.state.blocks name ≡ None
  pub was : ArenaView
  pub is : ArenaView
  pub arena : IsArenaOf space old was
  pub allocates : Allocates grew took policy was words before answer is after
  pub follows : AfterAlloc space old name is answer new

-- Why no arena is asked: the name is used; or there are no words, too many, or memory for the name
-- is wanting.
abbrev pub NameRefused : LoaderView → ℕ → ℕ → Refusal → Type 0
NameRefused loader name words BlockExists = (found : LiveBlock) × (named loader.state.blocks name ≡ Some found)
NameRefused loader name words refusal = (named loader.state.blocks name ≡ None) × PlaceRefused words refusal

pub record IsNotAsked {S : Type 0} (old : LoaderView) (name words : ℕ) (before : S) (answer : Result Block Refusal)
    (new : LoaderView) (after : S) : Type 0 where
  pub refusal : Refusal
  pub answer_is : answer ≡ Err refusal
  pub cause : NameRefused old name words refusal
  pub loader : new ≡ old
  pub source : after ≡ before

-- Why no block is allocated under a name: no arena is asked, or its source lends no chunk.
abbrev pub BlockRefused : LoaderView → ℕ → ℕ → Refusal → Type 0
BlockRefused loader name words refusal = NameRefused loader name words refusal ⊎ IsTakeRefusal refusal

-- An allocation of so many words in a space, under a name.
abbrev pub AllocatesBlock : {S : Type 0} → GrowRelation S → TakeRelation S → Policy → Space → LoaderView → ℕ → ℕ → S
    → Result Block Refusal → LoaderView → S → Type 0
AllocatesBlock grew took policy space old name words before answer new after =
    IsNotAsked old name words before answer new after
    ⊎ AsksArena grew took policy space old name words before answer new after

-- A word of the block is the value.
pub record HasWord (loader : LoaderState) (block index value : ℕ) : Type 0 where
  pub found : LiveBlock
  pub has : named loader.blocks block ≡ Some found
  pub word : slice_get found.contents index ≡ Some value

-- A word of the block is written.
pub record WritesWord (old : LoaderState) (block index value : ℕ) (new : LoaderState) : Type 0 where
  pub found : LiveBlock
  pub has : named old.blocks block ≡ Some found
  pub within : index < length found.contents
  pub after : new ≡ with_block old block (record found { contents = slice_set found.contents index value })

-- The block is live no more: its words become a free block of its space.
pub record FreesBlock (old : LoaderState) (block : ℕ) (new : LoaderState) : Type 0 where
  pub found : LiveBlock
  pub has : named old.blocks block ≡ Some found
  pub after : new
      ≡ with_freed (space_at found.start) old block
      (with_new (arena_of (space_at found.start) old).kept found.start (length found.contents))

-- The index is past the block, which has so many words.
pub record IsPastEnd (loader : LoaderState) (block index words : ℕ) : Type 0 where
  pub found : LiveBlock
  pub has : named loader.blocks block ≡ Some found
  pub words_are : words ≡ length found.contents
  pub past : words ≤ index

-- Why a loader has no such word: it has no such block, or the index is past its end.
abbrev pub LacksWord : LoaderState → ℕ → ℕ → Refusal → Type 0
LacksWord loader block index NoBlock = named loader.blocks block ≡ None
LacksWord loader block index (OutOfRange words) = IsPastEnd loader block index words
LacksWord loader block index _ = ⊥

-- Why a loader can't free a block: it has no such block.
abbrev pub LacksName : LoaderState → ℕ → Refusal → Type 0
LacksName loader block NoBlock = named loader.blocks block ≡ None
LacksName loader block _ = ⊥
