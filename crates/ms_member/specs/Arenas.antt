-- The arenas of a loader without names, and what its calls do.
use Rattle.std.specs.Prelude.{◌≡◌, ◌≢◌, ℕ, ◌<◌, Option, Result}
use Rattle.ms_base.specs.declared.kind.Space.{Space}
use Rattle.ms_base.specs.declared.kind.Space.TheVariants.{NonClass, Class}
use Rattle.ms_base.specs.declared.span.Block.{Block}
use Rattle.ms_base.specs.declared.refusal.Refusal.{Refusal}
use Rattle.ms_arena.specs.Arena.{ArenaView, account_of, Places, FreesBlock as FreesRun}
use Rattle.ms_arena.specs.Alloc.{Allocates}
use Rattle.ms_arena.specs.ArenaSums.{AreSums}
use Rattle.ms_loaders.specs.declared.system.sums.LoaderTotals.{LoaderTotals}
use Rattle.ms_shared.specs.declared.lock_rule.SeatView.{SeatView}
use Rattle.ms_shared.specs.SeatView.{HeldState, ServesBy, opened_by}
use Rattle.ms_shared.specs.LockCalls.{TookHeld, GrewHeld}
use Rattle.ms_member.specs.declared.member.arenas.Arenas.{Arenas}

-- The arena of a space, and with another one there.
abbrev pub arena_in : Space → Arenas → ArenaView
arena_in NonClass arenas = arenas.arena
arena_in Class arenas = arenas.class_arena

abbrev pub with_arena : Space → Arenas → ArenaView → Arenas
with_arena NonClass arenas arena = record { arena = arena; class_arena = arenas.class_arena }
with_arena Class arenas arena = record { arena = arenas.arena; class_arena = arena }

-- A seat serves the arenas: both accounts, which are two, one of each space, and it counts some in each.
pub record ServesArenas (knows : SeatView) (arenas : Arenas) : Type 0 where
  pub served : ServesBy knows (account_of arenas.arena)
  pub class_served : ServesBy knows (account_of arenas.class_arena)
  pub space : arenas.arena.space ≡ NonClass
  pub class_space : arenas.class_arena.space ≡ Class
  pub counted : (space : Space) → 0 < opened_by knows space
  pub apart : arenas.arena.owner ≢ arenas.class_arena.owner

-- A block is allocated in a space, or refused, over the pool that a seat has; the other arena stays.
pub record TakesOver (space : Space) (words : ℕ) (held : HeldState) (old : Arenas) (answer : Result Block Refusal)
    (new : Arenas) (now : HeldState) : Type 0 where
  pub is : ArenaView
  pub allocates : Allocates GrewHeld TookHeld held.seat.knows.limits.policy (arena_in space old) words held answer is now
  pub new_is : new ≡ with_arena space old is

-- It is placed in the arena's own chunks, or there is no place and nothing changes.
pub record PlacesOwn (space : Space) (words : ℕ) (old : Arenas) (found : Option Block) (new : Arenas) : Type 0 where
  pub is : ArenaView
  pub placing : Places (arena_in space old) words found is
  pub new_is : new ≡ with_arena space old is

-- A live block of a space is freed; the other arena stays.
pub record GivesBlock (space : Space) (old : Arenas) (block : Block) (new : Arenas) : Type 0 where
  pub is : ArenaView
  pub frees : FreesRun (arena_in space old) block is
  pub new_is : new ≡ with_arena space old is

-- The totals are the kind of a loader without names and the sums over both its arenas.
pub record AreArenasSums (arenas : Arenas) (totals : LoaderTotals) : Type 0 where
  pub kind : totals.kind ≡ arenas.arena.kind
  pub space : AreSums totals.space arenas.arena
  pub class_space : AreSums totals.class_space arenas.class_arena
