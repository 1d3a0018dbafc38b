-- The arena of a loader that leaves it to its program which blocks are live: what it shows, and what
-- its calls do. As of a raw arena, each is said whichever blocks are live.
use Rattle.std.specs.Prelude.{◌≡◌, ℕ, ◌-◌, List, length, Some, Result, IfOk}
use Rattle.ms_base.specs.declared.kind.Kind.{Kind}
use Rattle.ms_base.specs.declared.kind.Space.{Space}
use Rattle.ms_base.specs.declared.span.Block.{Block}
use Rattle.ms_base.specs.declared.refusal.Refusal.{Refusal}
use Rattle.ms_base.specs.Names.{named, with_new, without}
use Rattle.ms_base.specs.State.{ArenaState, empty_arena}
use Rattle.ms_base.specs.Good.{IsSound}
use Rattle.ms_pool.specs.Account.{AccountState}
use Rattle.ms_arena.specs.Arena.{ArenaView}
use Rattle.ms_arena.specs.Alloc.{Allocates}
use Rattle.ms_arena.specs.Raw.{RawArenaView, live_then}
use Rattle.ms_shared.specs.SeatView.{HeldState}
use Rattle.ms_shared.specs.LockCalls.{TookHeld, GrewHeld}

-- Its owner's number, its space, its loader's kind; its chunks, tops and free blocks; and how many
-- blocks are live.
pub record BareView : Type 0 where
  pub owner : ℕ
  pub space : Space
  pub kind : Kind
  pub books : ArenaState
  pub count : ℕ

-- What a raw arena shows where words are nobody's matter.
abbrev pub bare_of : RawArenaView → BareView
bare_of raw = record { owner = raw.owner; space = raw.space; kind = raw.kind; books = raw.books; count = raw.count }

-- Its account, and the arena that it is with these live blocks.
abbrev pub bare_account : BareView → AccountState
bare_account bare = record { owner = bare.owner; space = bare.space; chunks = bare.books.chunks }

abbrev pub arena_with : BareView → List (ℕ × List ℕ) → ArenaView
arena_with bare live =
    record { owner = bare.owner; space = bare.space; kind = bare.kind; books = bare.books; live = live }

-- It has nothing yet but an account.
abbrev pub new_bare : AccountState → Kind → BareView
new_bare account kind =
    record {
      owner = account.owner;
      space = account.space;
      kind = kind;
      books = record empty_arena { chunks = account.chunks };
      count = 0;
    }

-- These may be its live blocks: as many as it counts, in use, and apart from each other and from free
-- blocks.
pub record MayHave (bare : BareView) (runs : List (ℕ × ℕ)) : Type 0 where
  pub sound : IsSound bare.books runs
  pub counted : bare.count ≡ length runs

-- So this may be one of them.
pub record MayHaveBlock (bare : BareView) (block : Block) : Type 0 where
  pub runs : List (ℕ × ℕ)
  pub may : MayHave bare runs
  pub found : named runs block.start ≡ Some block.words

-- A block more is live, whichever were.
abbrev pub GainsLive : BareView → Block → BareView → Type 0
GainsLive old block new =
    (runs : List (ℕ × ℕ)) → MayHave old runs → MayHave new (with_new runs block.start block.words)

-- A live block's words become a free block; it is live no more, and whichever others were still are.
pub record FreesLive (old : BareView) (block : Block) (new : BareView) : Type 0 where
  pub after : new
      ≡ record old {
        books = record old.books { kept = with_new old.books.kept block.start block.words };
        count = old.count - 1;
      }
  pub others : (runs : List (ℕ × ℕ)) → MayHave old runs → named runs block.start ≡ Some block.words
      → MayHave new (without runs block.start)

-- It is asked for a block over the pool that a seat has.
pub record AsksBare (words : ℕ) (held : HeldState) (old : BareView) (answer : Result Block Refusal) (new : BareView)
    (now : HeldState) : Type 0 where
  pub allocates : (live : List (ℕ × List ℕ)) → Allocates GrewHeld TookHeld held.seat.knows.limits.policy
      (arena_with old live) words held answer (arena_with new (live_then live answer)) now
  pub gains : IfOk answer (λ block. GainsLive old block new)
