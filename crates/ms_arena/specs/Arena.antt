-- An arena as its callers see it, and what calls that ask no source do to it.
use Rattle.std.specs.Prelude.{◌≡◌, ℕ, ◌<◌, ◌≤◌, ◌⊎◌, List, [], length, map, replicate, slice_get, slice_set, Option, Some}
use Rattle.std.specs.Prelude.{None}
use Rattle.ms_base.specs.declared.kind.Kind.{Kind}
use Rattle.ms_base.specs.declared.kind.Space.{Space}
use Rattle.ms_base.specs.declared.span.Block.{Block}
use Rattle.ms_base.specs.declared.refusal.Refusal.{Refusal}
use Rattle.ms_base.specs.declared.refusal.Refusal.TheVariants.{ZeroWords, TooLarge, NotLive, OutOfRange, OutOfMemory}
use Rattle.ms_base.specs.Level.{size_of}
use Rattle.ms_base.specs.Names.{AreNamed, named, with_new, with_changed, without}
use Rattle.ms_base.specs.Live.{block_words}
use Rattle.ms_base.specs.State.{ArenaState, empty_arena}
use Rattle.ms_base.specs.Good.{IsSound}
use Rattle.ms_base.specs.Place.{placed}
use Rattle.ms_pool.specs.Account.{AccountState, AreChunks}
use Rattle.ms_pool.specs.Source.{IsTakeRefusal}

-- An arena has its owner's number, its space, its loader's kind; its chunks, tops and free blocks;
-- and its live blocks, as contents by start.
pub record ArenaView : Type 0 where
  pub owner : ℕ
  pub space : Space
  pub kind : Kind
  pub books : ArenaState
  pub live : List (ℕ × List ℕ)

-- The account of an arena.
abbrev pub account_of : ArenaView → AccountState
account_of arena = record { owner = arena.owner; space = arena.space; chunks = arena.books.chunks }

-- An arena that has nothing yet.
abbrev pub new_arena : AccountState → Kind → ArenaView
new_arena account kind =
    record {
      owner = account.owner;
      space = account.space;
      kind = kind;
      books = record empty_arena { chunks = account.chunks };
      live = [];
    }

-- The words where the live blocks lie.
abbrev pub live_run : ℕ × List ℕ → ℕ × ℕ
live_run block = (block.0, length block.1)

abbrev pub live_runs : ArenaView → List (ℕ × ℕ)
live_runs arena = map live_run arena.live

-- What is true of every arena: its chunks are an account's, live and free blocks are apart and in
-- use, and starts of live blocks rise.
pub record IsSoundArena (arena : ArenaView) : Type 0 where
  pub chunks : AreChunks arena.space arena.books.chunks
  pub books : IsSound arena.books (live_runs arena)
  pub names : AreNamed arena.live

-- The arena with other books.
abbrev pub with_books : ArenaView → ArenaState → ArenaView
with_books arena books = record arena { books = books }

-- The arena with a new live block of n words from the start on, each of them 0.
abbrev pub with_zeros : ArenaView → ℕ → ℕ → ArenaView
with_zeros arena start n = record arena { live = with_new arena.live start (replicate n 0) }

-- The block of n words at a start.
abbrev pub block_at : ℕ → ℕ → Block
block_at start n = record { start = start; words = n }

-- The number of words may be asked for: 1 to the words of a root.
pub record IsAskable (words : ℕ) : Type 0 where
  pub some : 1 ≤ words
  pub fits : words ≤ size_of 0

-- So many words is what the block of a request has: at least two, and no more than a root.
pub record IsAsked (request n : ℕ) : Type 0 where
  pub words_of : n ≡ block_words request
  pub askable : IsAskable request
  pub some : 2 ≤ n
  pub fits_root : n ≤ size_of 0

-- Why no place was looked for: no words, too many, or memory is wanting.
abbrev pub PlaceRefused : ℕ → Refusal → Type 0
PlaceRefused words ZeroWords = words ≡ 0
PlaceRefused words TooLarge = size_of 0 < words
PlaceRefused words OutOfMemory = IsAskable words
PlaceRefused words _ = ⊥

-- Why no block is allocated: no place was looked for, or there was none, and the source lends no
-- chunk.
abbrev pub AllocRefused : ℕ → Refusal → Type 0
AllocRefused words refusal = PlaceRefused words refusal ⊎ (IsAskable words × IsTakeRefusal refusal)

-- A block is placed where it has a place without a chunk, and nothing changes where it has none.
abbrev pub PlacedAt : ArenaView → ℕ → Option (ℕ × ArenaState) → Option Block → ArenaView → Type 0
PlacedAt old n (Some place) (Some block) new =
    (block ≡ block_at place.0 n) × (new ≡ with_zeros (with_books old place.1) place.0 n)
PlacedAt old n None None new = new ≡ old
PlacedAt old n _ _ new = ⊥

abbrev pub Places : ArenaView → ℕ → Option Block → ArenaView → Type 0
Places old words found new =
    IsAskable words × PlacedAt old (block_words words) (placed old.books (block_words words)) found new

-- The block is live here, with these contents.
pub record IsLive (arena : ArenaView) (block : Block) (contents : List ℕ) : Type 0 where
  pub found : named arena.live block.start ≡ Some contents
  pub words : block.words ≡ length contents

-- The block is not live here: no live block starts there, or it has another number of words.
abbrev pub IsNotLive : ArenaView → Block → Type 0
IsNotLive arena block = (contents : List ℕ) → IsLive arena block contents → ⊥

-- A word of a live block is read, or written.
pub record ReadsWord (arena : ArenaView) (block : Block) (index value : ℕ) : Type 0 where
  pub contents : List ℕ
  pub live : IsLive arena block contents
  pub word : slice_get contents index ≡ Some value

pub record WritesWord (old : ArenaView) (block : Block) (index value : ℕ) (new : ArenaView) : Type 0 where
  pub contents : List ℕ
  pub live : IsLive old block contents
  pub within : index < length contents
  pub after : new ≡ record old { live = with_changed old.live block.start (slice_set contents index value) }

-- The index is past the live block, which has so many words.
pub record IsPastEnd (arena : ArenaView) (block : Block) (index words : ℕ) : Type 0 where
  pub contents : List ℕ
  pub live : IsLive arena block contents
  pub words_are : words ≡ length contents
  pub past : words ≤ index

-- Why there is no such word.
abbrev pub WordRefused : ArenaView → Block → ℕ → Refusal → Type 0
WordRefused arena block index NotLive = IsNotLive arena block
WordRefused arena block index (OutOfRange words) = IsPastEnd arena block index words
WordRefused arena block index _ = ⊥

-- And where runs are named by their starts: the block's isn't there, or ends before the word.
abbrev pub LacksWord : List (ℕ × ℕ) → Block → ℕ → Refusal → Type 0
LacksWord runs block index refusal =
    (refusal ≡ NotLive × (named runs block.start ≡ Some block.words → ⊥))
    ⊎ (refusal ≡ OutOfRange block.words × named runs block.start ≡ Some block.words × block.words ≤ index)

-- A live block is freed: its words become a free block.
pub record FreesBlock (old : ArenaView) (block : Block) (new : ArenaView) : Type 0 where
  pub contents : List ℕ
  pub live : IsLive old block contents
  pub after : new
      ≡ record old {
        live = without old.live block.start;
        books = record old.books { kept = with_new old.books.kept block.start block.words };
      }
