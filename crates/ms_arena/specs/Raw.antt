-- An arena that is told which blocks are live, as its callers see it, and what its calls do.
use Rattle.std.specs.Prelude.{◌≡◌, ℕ, ◌+◌, ◌-◌, ◌%◌, ◌^◌, ◌<◌, ◌≤◌, List, length, map, replicate, Option, Some, None}
use Rattle.std.specs.Prelude.{Result, Ok, Err}
use Rattle.std.specs.List.{All, range_with_len, sum_by}
use Rattle.ms_base.specs.declared.kind.Kind.{Kind}
use Rattle.ms_base.specs.declared.kind.Space.{Space}
use Rattle.ms_base.specs.declared.span.Block.{Block}
use Rattle.ms_base.specs.declared.refusal.Refusal.{Refusal}
use Rattle.ms_base.specs.Names.{with_new}
use Rattle.ms_base.specs.State.{ArenaState, empty_arena}
use Rattle.ms_base.specs.Good.{IsSound}
use Rattle.ms_pool.specs.Account.{AccountState, AreChunks}
use Rattle.ms_arena.specs.Arena.{ArenaView}
use Rattle.ms_arena.specs.Books.{AwaitsBlock, BooksView}
use Rattle.ms_arena.specs.Words.{WordsView, StayWords, Opens, IsThere, value_at}

-- Its owner's number, its space, its loader's kind; its chunks, tops and free blocks; how many
-- blocks are live, how many words they have together, modulo 2^64; and the words by number.
pub record RawArenaView : Type 0 where
  pub owner : ℕ
  pub space : Space
  pub kind : Kind
  pub books : ArenaState
  pub count : ℕ
  pub total : ℕ
  pub words : WordsView

-- What the fields of one stand for.
abbrev pub raw_over : BooksView → Kind → ℕ → ℕ → WordsView → RawArenaView
raw_over books kind count total words =
    record {
      owner = books.owner;
      space = books.space;
      kind = kind;
      books = books.state;
      count = count;
      total = total;
      words = words;
    }

-- Its account.
abbrev pub raw_account : RawArenaView → AccountState
raw_account raw = record { owner = raw.owner; space = raw.space; chunks = raw.books.chunks }

-- The arena that it is with these live blocks, as contents by start.
abbrev pub with_live : RawArenaView → List (ℕ × List ℕ) → ArenaView
with_live raw live =
    record { owner = raw.owner; space = raw.space; kind = raw.kind; books = raw.books; live = live }

-- The live blocks once an answer gave one more, or none.
abbrev pub live_with : List (ℕ × List ℕ) → Option Block → List (ℕ × List ℕ)
live_with live None = live
live_with live (Some block) = with_new live block.start (replicate block.words 0)

abbrev pub live_then : List (ℕ × List ℕ) → Result Block Refusal → List (ℕ × List ℕ)
live_then live (Ok block) = live_with live (Some block)
live_then live (Err refusal) = live

-- What the words of a run are, and of each of these runs.
abbrev pub contents_at : WordsView → ℕ × ℕ → List ℕ
contents_at words run = map (λ (index : ℕ). value_at words (run.0 + index)) (range_with_len 0 run.1)

abbrev pub live_in : WordsView → List (ℕ × ℕ) → List (ℕ × List ℕ)
live_in words runs = map (λ (run : ℕ × ℕ). (run.0, contents_at words run)) runs

-- It has nothing yet but an account.
pub record IsNewRaw (account : AccountState) (kind : Kind) (raw : RawArenaView) : Type 0 where
  pub owner : raw.owner ≡ account.owner
  pub space : raw.space ≡ account.space
  pub kind_is : raw.kind ≡ kind
  pub books : raw.books ≡ empty_arena
  pub count : raw.count ≡ 0
  pub total : raw.total ≡ 0

-- All is as it was, but for room.
pub record IsSameRaw (old new : RawArenaView) : Type 0 where
  pub rest : new ≡ record old { words = new.words }
  pub words : StayWords old.words new.words

-- A block more is live: it has at least two words, which awaited it, and are there and 0; the chunks
-- are an account's.
pub record Gains (old : RawArenaView) (block : Block) (new : RawArenaView) : Type 0 where
  pub long : 2 ≤ block.words
  pub awaits : AwaitsBlock old.books new.books block.start block.words
  pub chunks : AreChunks new.space new.books.chunks
  pub opens : Opens old.words block.start (block.start + block.words) new.words
  pub count : new.count ≡ old.count + 1
  pub total : new.total ≡ (old.total + block.words) % 2 ^ 64
  pub owner : new.owner ≡ old.owner
  pub space : new.space ≡ old.space
  pub kind : new.kind ≡ old.kind

-- A block less is live: its words are a free block, and stay as they are.
abbrev pub FreesRun : RawArenaView → Block → RawArenaView → Type 0
FreesRun old block new = new ≡ record old {
  books = record old.books { kept = with_new old.books.kept block.start block.words };
  count = old.count - 1;
  total = (old.total + (2 ^ 64 - block.words)) % 2 ^ 64;
}

-- The words of a run are there, and their numbers fit a machine word.
pub record RunIsThere (words : WordsView) (run : ℕ × ℕ) : Type 0 where
  pub each : (word : ℕ) → run.0 ≤ word → word < run.0 + run.1 → IsThere words word
  pub ends : run.0 + run.1 < 2 ^ 64

-- These runs are its live blocks: its chunks are an account's, its books are sound with the runs,
-- these are counted with their words, and each word of them is there.
pub record Holds (raw : RawArenaView) (runs : List (ℕ × ℕ)) : Type 0 where
  pub chunks : AreChunks raw.space raw.books.chunks
  pub sound : IsSound raw.books runs
  pub counted : raw.count ≡ length runs
  pub summed : raw.total ≡ sum_by (λ (run : ℕ × ℕ). run.1) runs % 2 ^ 64
  pub there : All (RunIsThere raw.words) runs
