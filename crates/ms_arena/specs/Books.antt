-- The books of an arena as the code keeps them: its account, a top for each chunk, and its free
-- blocks, beside the room for more.
use Rattle.std.specs.Prelude.{◌≡◌, ℕ, ◌+◌, ◌-◌, ◌^◌, ◌≤◌, ◌<◌, Bool, sum, List, [], ◌++◌, length, slice_index, Vec}
use Rattle.std.specs.Prelude.{vec_len, vec_capacity, Option, Some, None, Result, Ok, Err, IfOk, OnOk, OnErr, IsTrue, IsFalse}
use Rattle.ms_base.specs.declared.policy.Policy.{Policy}
use Rattle.ms_base.specs.declared.kind.Kind.{Kind}
use Rattle.ms_base.specs.declared.kind.Space.{Space}
use Rattle.ms_base.specs.declared.span.Chunk.{Chunk}
use Rattle.ms_base.specs.declared.span.Span.{Span}
use Rattle.ms_base.specs.declared.span.Block.{Block}
use Rattle.ms_base.specs.declared.refusal.Refusal.{Refusal}
use Rattle.ms_base.specs.Interval.{meets_any}
use Rattle.ms_base.specs.Level.{size_of}
use Rattle.ms_base.specs.State.{ArenaState, Limits}
use Rattle.ms_base.specs.Good.{IsSound, is_in_use}
use Rattle.ms_base.specs.Names.{named, without}
use Rattle.ms_base.specs.Place.{best_fit, current, current_top, tops_with, with_rest, with_top, with_taken}
use Rattle.ms_base.specs.Asks.{asks_growth, may_enlarge, total_asked}
use Rattle.ms_blocks.specs.FreeBlocks.{MayBeKept}
use Rattle.ms_pool.specs.Account.{AccountState, AreChunks}
use Rattle.ms_pool.specs.Lending.{chunk_at, reaching}
use Rattle.ms_pool.specs.Source.{LeavesRest}
use Rattle.ms_arena.specs.Arena.{ArenaView, IsSoundArena, with_books, with_zeros, block_at}
use Rattle.ms_arena.specs.Alloc.{TakeRelation, GrowRelation, with_current}

-- An account's owner and space, the state that the model sees, how many more free blocks and tops
-- there is room for, and how many free blocks came since the others were put in order.
pub record BooksView : Type 0 where
  pub owner : ℕ
  pub space : Space
  pub state : ArenaState
  pub room : ℕ
  pub came : ℕ
  pub spare_tops : ℕ

-- The account of the books.
abbrev pub account_in : BooksView → AccountState
account_in books = record { owner = books.owner; space = books.space; chunks = books.state.chunks }

-- An arena over the books, of a kind and with live blocks.
abbrev pub arena_over : BooksView → Kind → List (ℕ × List ℕ) → ArenaView
arena_over books kind live =
    record { owner = books.owner; space = books.space; kind = kind; books = books.state; live = live }

-- Beside so many live blocks there is room for one more: for its top, and for free blocks, its own when it is
-- freed and the rest of a chunk that retires.
pub record HaveRoomBeside (live : ℕ) (books : BooksView) : Type 0 where
  pub room : live + 2 ≤ books.room
  pub fits : live + 2 < 2 ^ 64
  pub ordered : books.came ≡ 0
  pub spare_tops : 0 < books.spare_tops

-- The books are as they were, but for room, of which there is no less.
pub record IsSameBooks (old new : BooksView) : Type 0 where
  pub rest : new ≡ record old { room = new.room; came = new.came; spare_tops = new.spare_tops }
  pub more : old.room ≤ new.room

-- What is kept true of books: the chunks are an account's, each has its top, the words in use are
-- the sum of the tops, and they are sound with no live block.
pub record AreBooks (space : Space) (state : ArenaState) (counted : ℕ) : Type 0 where
  pub chunks : AreChunks space state.chunks
  pub each : length state.tops ≡ length state.chunks
  pub used : counted ≡ sum state.tops
  pub sound : IsSound state []

-- A run of words awaits its block: it meets neither a live nor a free block, is in use, and has two
-- words.
pub record Awaits (state : ArenaState) (live : List (ℕ × ℕ)) (run : ℕ × ℕ) : Type 0 where
  pub sound : IsSound state live
  pub clear : IsFalse (meets_any run (live ++ state.kept))
  pub used : IsTrue (is_in_use state run)
  pub long : 2 ≤ run.1

-- So it is whatever the live blocks are, and it ends below 2 ^ 27.
pub record AwaitsBlock (old new : ArenaState) (start n : ℕ) : Type 0 where
  pub each : (live : List (ℕ × ℕ)) → IsSound old live → Awaits new live (start, n)
  pub ends : start + n < 2 ^ 27

-- A block of n words may be placed, in room that there is: one that a chunk of the level holds.
pub record MayPlace (books : BooksView) (level n : ℕ) : Type 0 where
  pub some : 2 ≤ n
  pub fits : n ≤ size_of level
  pub room : 0 < books.room
  pub spare_tops : 0 < books.spare_tops

-- Or one in a free block or in the current chunk, whose rest may be a free block more.
pub record MayHold (books : BooksView) (n : ℕ) : Type 0 where
  pub some : 2 ≤ n
  pub fits : n ≤ size_of 0
  pub room : 0 < books.room
  pub ordered : books.came ≡ 0

-- What whoever has a source serve a placing has to see to.
pub record CanTakeChunk {S : Type 0} (serves : S → AccountState → Type 0) (source : S) (books : BooksView)
    (wanted most n : ℕ) : Type 0 where
  pub served : serves source (account_in books)
  pub levels : wanted ≤ most
  pub may : MayPlace books most n

-- What that leaves: the block's words await it, the chunks are an account's, and at most one more
-- free block is kept; a refusal changes nothing.
pub record Leaves (old : BooksView) (n : ℕ) (result : Result ℕ Refusal) (new : BooksView) : Type 0 where
  pub awaits : IfOk result (λ start. AwaitsBlock old.state new.state start n)
  pub chunks : OnOk result (AreChunks new.space new.state.chunks)
  pub room : old.room ≤ new.room + 1
  pub owner : new.owner ≡ old.owner
  pub space : new.space ≡ old.space
  pub unchanged : OnErr result (new ≡ old)

-- The current chunk may be asked to grow: so that its top rises by a block at least, and not too
-- far.
pub record MayGrow (state : ArenaState) (chunk : Chunk) (total : ℕ) : Type 0 where
  pub current_is : current state ≡ Some chunk
  pub more : current_top state + 2 ≤ total
  pub small : total ≤ 2 ^ 40

-- What whoever has a source grow it has to see to.
pub record CanReach {S : Type 0} (serves : S → AccountState → Type 0) (source : S) (books : BooksView) (chunk : Chunk)
    (total : ℕ) : Type 0 where
  pub served : serves source (account_in books)
  pub may : MayGrow books.state chunk total

-- The current chunk grew to reach so many words, and its top is there now.
pub record HasGrown {S : Type 0} (grew : GrowRelation S) (policy : Policy) (old : BooksView) (chunk : Chunk)
    (total : ℕ) (may : Bool) (before : S) (new : BooksView) (after : S) : Type 0 where
  pub span : Span
  pub asked : grew before (account_in old) chunk.start total may (Ok span) after
  pub state : new ≡ record old { state = with_top (with_current old.state (reaching policy chunk total)) total }

-- A chunk was taken, and the block lies at its start.
pub record HasTaken {S : Type 0} (took : TakeRelation S) (policy : Policy) (old : BooksView)
    (wanted most n : ℕ) (before : S) (start : ℕ) (new : ArenaState) (after : S) : Type 0 where
  pub span : Span
  pub asked : took before (account_in old) wanted most n (Ok span) after
  pub starts : start ≡ span.start
  pub state : new ≡ with_taken old.state (chunk_at policy span n) n

-- The answer to a request for n words, and the arena then, by where the block lies.
abbrev pub answer_at : Result ℕ Refusal → ℕ → Result Block Refusal
answer_at (Ok start) n = Ok (block_at start n)
answer_at (Err refusal) n = Err refusal

abbrev pub arena_then : ArenaView → ArenaState → Result ℕ Refusal → ℕ → ArenaView
arena_then arena state (Ok start) n = with_zeros (with_books arena state) start n
arena_then arena state (Err refusal) n = arena

-- A chunk of an arena with its top: the top lies within the front, that within the chunk, and the
-- chunk below 2 ^ 27.
pub record IsCurrent (chunk : Chunk) (top : ℕ) : Type 0 where
  pub within : top ≤ chunk.front
  pub front : chunk.front ≤ size_of chunk.level
  pub ends : chunk.start + size_of chunk.level < 2 ^ 27

-- A block lies at the start of the free block that fits best, whose rest is kept.
pub record PlacesFree (old : List (ℕ × ℕ)) (n start : ℕ) (new : List (ℕ × ℕ)) : Type 0 where
  pub words : ℕ
  pub fits : best_fit old n ≡ Some (start, words)
  pub has : named old start ≡ Some words
  pub enough : n ≤ words
  pub after : new ≡ with_rest (without old start) (start + n) (words - n)

-- Once tops have risen, the sum that is kept is theirs and has grown by so many words at most;
-- there are as many tops, and room for as many.
pub record StayCounted {Z : Type 0} (most : ℕ) (old : Vec ℕ Z) (was : ℕ) (new : Vec ℕ Z) (now : ℕ) : Type 0 where
  pub used : now ≡ sum new.items
  pub few : now ≤ was + most
  pub len : vec_len new ≡ vec_len old
  pub capacity : vec_capacity new ≡ vec_capacity old

-- The chunk that was current may retire: it has a top, its front is not far, and its committed
-- rest, if it has two words, may be a free block.
pub record MayRetireAt (tops : List ℕ) (kept : List (ℕ × ℕ)) (chunk : Chunk) (top : ℕ) : Type 0 where
  pub last : 0 < length tops
  pub top_is : slice_index tops (length tops - 1) ≡ top
  pub bounds : IsCurrent chunk top
  pub size : size_of chunk.level ≤ 2 ^ 19
  pub rest : 2 ≤ chunk.front - top → MayBeKept kept (chunk.start + top, chunk.front - top)

abbrev pub MayRetire : List ℕ → List (ℕ × ℕ) → Option (Chunk × ℕ) → Type 0
MayRetire tops kept None = Unit {0}
MayRetire tops kept (Some at) = MayRetireAt tops kept at.0 at.1

-- The tops, and the free blocks, once it has.
abbrev pub tops_retired : List ℕ → Option (Chunk × ℕ) → List ℕ
tops_retired tops None = tops
tops_retired tops (Some at) = tops_with tops (length tops - 1) at.0.front

abbrev pub kept_retired : List (ℕ × ℕ) → Option (Chunk × ℕ) → List (ℕ × ℕ)
kept_retired kept None = kept
kept_retired kept (Some at) = with_rest kept (at.0.start + at.1) (at.0.front - at.1)

-- The source is asked to grow the current chunk so far, and whether it may become its parent.
pub record AsksFor (state : ArenaState) (kind : Kind) (space : Space) (n : ℕ) (chunk : Chunk) (total : ℕ)
    (may : Bool) : Type 0 where
  pub found : current state ≡ Some chunk
  pub total_is : total ≡ total_asked state n
  pub may_is : may ≡ may_enlarge kind space state chunk
  pub asks : IsTrue (asks_growth kind space state (Some chunk) n)
  pub ends : chunk.start + total < 2 ^ 32

-- A place for a block of n words may be looked for: the source serves the account of the books,
-- which may place it.
pub record MayLook {S : Type 0} (serves : S → AccountState → Type 0) (source : S) (books : BooksView)
    (n : ℕ) : Type 0 where
  pub served : serves source (account_in books)
  pub may : MayPlace books 0 n

-- One was looked for: the source serves the account still, and leaves the rest; the books keep to
-- what a placement leaves.
pub record HasLooked {S : Type 0} (serves : S → AccountState → Type 0) (opened : S → Space → ℕ)
    (limits : S → Limits) (old : BooksView) (n : ℕ) (before : S) (result : Result ℕ Refusal) (new : BooksView)
    (after : S) : Type 0 where
  pub served : serves after (account_in new)
  pub rest : LeavesRest serves opened limits old.owner before after
  pub leaves : Leaves old n result new

-- What is said of an arena, the answer to a request for n words and the arena then, is so whatever
-- blocks are live.
abbrev pub ForAllLive : BooksView → Kind → ℕ → Result ℕ Refusal → ArenaState
    → (ArenaView → Result Block Refusal → ArenaView → Type 0) → Type 0
ForAllLive old kind n result new relation = (live : List (ℕ × List ℕ)) → let arena = arena_over old kind live in
    relation arena (answer_at result n) (arena_then arena new result n)

-- What is kept true of an arena: it is sound, and there is room to free each live block.
pub record IsArena (arena : ArenaView) (spare : ℕ) : Type 0 where
  pub sound : IsSoundArena arena
  pub room : length arena.live ≤ spare
