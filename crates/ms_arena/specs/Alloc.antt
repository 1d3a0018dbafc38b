-- An allocation as a whole: a place without a chunk; else at most one growth of the current chunk,
-- then at most one new chunk, by the source's own relations (the steps are this project's choice;
-- HotSpot's are in metaspaceArena.cpp).
use Rattle.std.specs.Prelude.{◌≡◌, ℕ, ◌+◌, ◌⊎◌, Bool, true, slice_set, Option, Some, None, Result, Ok, Err}
use Rattle.ms_base.specs.declared.policy.Policy.{Policy}
use Rattle.ms_base.specs.declared.span.Chunk.{Chunk}
use Rattle.ms_base.specs.declared.span.Span.{Span}
use Rattle.ms_base.specs.declared.span.Block.{Block}
use Rattle.ms_base.specs.declared.refusal.Refusal.{Refusal}
use Rattle.ms_base.specs.Level.{level_that_holds}
use Rattle.ms_base.specs.Live.{block_words}
use Rattle.ms_base.specs.State.{ArenaState}
use Rattle.ms_base.specs.Place.{placed, current, current_top, last_index, with_top, with_taken}
use Rattle.ms_base.specs.Asks.{asks_growth, may_enlarge, total_asked, wanted_level}
use Rattle.ms_pool.specs.Account.{AccountState}
use Rattle.ms_pool.specs.Lending.{chunk_at, reaching}
use Rattle.ms_arena.specs.Arena.{ArenaView, account_of, with_books, with_zeros, block_at, IsAskable, PlaceRefused}

-- What a source's `take` and `grow` may answer and make of it.
abbrev pub TakeRelation : Type 0 → Type 1
TakeRelation S = S → AccountState → ℕ → ℕ → ℕ → Result Span Refusal → S → Type 0

abbrev pub GrowRelation : Type 0 → Type 1
GrowRelation S = S → AccountState → ℕ → ℕ → Bool → Result Span Refusal → S → Type 0

-- The books with another current chunk.
abbrev pub with_current : ArenaState → Chunk → ArenaState
with_current books chunk = record books { chunks = slice_set books.chunks (last_index books) chunk }

-- The arena with a block at the current chunk's top, once that chunk has grown to reach its end.
abbrev pub with_block_grown : Policy → ArenaView → Chunk → ℕ → ArenaView
with_block_grown policy arena chunk n =
    with_zeros
    (with_books arena (with_top (with_current arena.books (reaching policy chunk (total_asked arena.books n)))
    (total_asked arena.books n)))
    (chunk.start + current_top arena.books) n

-- The arena with a block at the start of a new chunk; the former current chunk retires.
abbrev pub with_new_chunk : ArenaView → Chunk → ℕ → ArenaView
with_new_chunk arena chunk n = with_zeros (with_books arena (with_taken arena.books chunk n)) chunk.start n

-- What follows from the answer to `take`: a refusal is passed on, and nothing changes.
abbrev pub AfterTake : Policy → ArenaView → ℕ → Result Span Refusal → Result Block Refusal → ArenaView → Type 0
AfterTake policy old n (Ok span) answer new =
    (answer ≡ Ok (block_at span.start n)) × (new ≡ with_new_chunk old (chunk_at policy span n) n)
AfterTake policy old n (Err refusal) answer new = (answer ≡ Err refusal) × (new ≡ old)

-- The source is asked for a chunk.
pub record TakesNew {S : Type 0} (took : TakeRelation S) (policy : Policy) (old : ArenaView) (n : ℕ)
    (before : S) (answer : Result Block Refusal) (new : ArenaView) (after : S) : Type 0 where
  pub lent : Result Span Refusal
  pub asked : took before (account_of old) (wanted_level old.kind old.space old.books n) (level_that_holds n)
      n lent after
  pub follows : AfterTake policy old n lent answer new

-- What follows from the answer to `grow`: the block lies at the top, or a chunk is asked for.
abbrev pub AfterGrow : {S : Type 0} → TakeRelation S → Policy → ArenaView → Chunk → ℕ → Result Span Refusal
    → S → Result Block Refusal → ArenaView → S → Type 0
AfterGrow took policy old chunk n (Ok span) middle answer new after =
    (after ≡ middle) × (answer ≡ Ok (block_at (chunk.start + current_top old.books) n))
    × (new ≡ with_block_grown policy old chunk n)
AfterGrow took policy old chunk n (Err refusal) middle answer new after =
    TakesNew took policy old n middle answer new after

-- The source is asked to grow the current chunk.
pub record GrowsCurrent {S : Type 0} (grew : GrowRelation S) (took : TakeRelation S) (policy : Policy)
    (old : ArenaView) (chunk : Chunk) (n : ℕ) (before : S) (answer : Result Block Refusal) (new : ArenaView)
    (after : S) : Type 0 where
  pub middle : S
  pub grown : Result Span Refusal
  pub asked : grew before (account_of old) chunk.start (total_asked old.books n)
      (may_enlarge old.kind old.space old.books chunk) grown middle
  pub follows : AfterGrow took policy old chunk n grown middle answer new after

-- Whether the source is asked to grow the current chunk, or for a new one.
abbrev pub AsksChunk : {S : Type 0} → GrowRelation S → TakeRelation S → Policy → ArenaView → ℕ → Option Chunk
    → Bool → S → Result Block Refusal → ArenaView → S → Type 0
AsksChunk grew took policy old n (Some chunk) true before answer new after =
    GrowsCurrent grew took policy old chunk n before answer new after
AsksChunk grew took policy old n _ _ before answer new after = TakesNew took policy old n before answer new after

-- Whether the block has a place without a chunk: then the source is not asked.
abbrev pub FindsPlace : {S : Type 0} → GrowRelation S → TakeRelation S → Policy → ArenaView → ℕ
    → Option (ℕ × ArenaState) → S → Result Block Refusal → ArenaView → S → Type 0
FindsPlace grew took policy old n (Some place) before answer new after =
    (answer ≡ Ok (block_at place.0 n)) × (new ≡ with_zeros (with_books old place.1) place.0 n) × (after ≡ before)
FindsPlace grew took policy old n None before answer new after =
    AsksChunk grew took policy old n (current old.books)
    (asks_growth old.kind old.space old.books (current old.books) n) before answer new after

-- No place is looked for, or memory is wanting for the arena itself: nothing changes.
pub record IsRefused {S : Type 0} (old : ArenaView) (words : ℕ) (before : S) (answer : Result Block Refusal)
    (new : ArenaView) (after : S) : Type 0 where
  pub refusal : Refusal
  pub answer_is : answer ≡ Err refusal
  pub cause : PlaceRefused words refusal
  pub arena : new ≡ old
  pub source : after ≡ before

-- An allocation of so many words.
abbrev pub Allocates : {S : Type 0} → GrowRelation S → TakeRelation S → Policy → ArenaView → ℕ → S
    → Result Block Refusal → ArenaView → S → Type 0
Allocates grew took policy old words before answer new after =
    IsRefused old words before answer new after
    ⊎ (IsAskable words × FindsPlace grew took policy old (block_words words) (placed old.books (block_words words))
    before answer new after)
