-- A loader without names: its arenas know their live blocks, or leave them to the program.
use Rattle.std.specs.Prelude.{◌≡◌, ℕ, ◌+◌, Bool, true, false, List, [], Option, Some, None, Result, Ok, IfSome, IfNone}
use Rattle.ms_base.specs.declared.kind.Kind.{Kind}
use Rattle.ms_base.specs.declared.kind.Space.{Space}
use Rattle.ms_base.specs.declared.kind.Space.TheVariants.{NonClass, Class}
use Rattle.ms_base.specs.declared.span.Block.{Block}
use Rattle.ms_base.specs.declared.refusal.Refusal.{Refusal}
use Rattle.ms_base.specs.Totals.{used_of}
use Rattle.ms_pool.specs.Account.{AccountState}
use Rattle.ms_arena.specs.Arena.{new_arena, Places}
use Rattle.ms_arena.specs.Raw.{live_with}
use Rattle.ms_loaders.specs.declared.system.sums.LoaderTotals.{LoaderTotals}
use Rattle.ms_shared.specs.SeatView.{HeldState}
use Rattle.ms_shared.specs.LockCalls.{OpenedBothHeld}
use Rattle.ms_member.specs.declared.member.arenas.Arenas.{Arenas}
use Rattle.ms_member.specs.declared.member.bare.BareArenas.{BareArenas}
use Rattle.ms_member.specs.declared.member.hosted.Hosted.{Hosted}
use Rattle.ms_member.specs.declared.member.hosted.Hosted.TheVariants.{Known, Bare}
use Rattle.ms_member.specs.Arenas.{TakesOver, PlacesOwn, AreArenasSums}
use Rattle.ms_member.specs.Bare.{BareView, arena_with, new_bare, AsksBare, GainsLive, FreesLive}
use Rattle.ms_member.specs.Bare.{MayHaveBlock}

-- The bare arena of a space, and with another one there.
abbrev pub bare_in : Space → BareArenas → BareView
bare_in NonClass arenas = arenas.arena
bare_in Class arenas = arenas.class_arena

abbrev pub with_bare : Space → BareArenas → BareView → BareArenas
with_bare NonClass arenas arena = record { arena = arena; class_arena = arenas.class_arena }
with_bare Class arenas arena = record { arena = arenas.arena; class_arena = arena }

-- The arenas as far as they know their blocks.
abbrev pub shown : Hosted → Arenas
shown (Known arenas) = arenas
shown (Bare arenas) =
    record { arena = arena_with arenas.arena []; class_arena = arena_with arenas.class_arena [] }

-- Arenas over two accounts that have nothing yet.
abbrev pub new_hosted : Bool → AccountState × AccountState → Kind → Hosted
new_hosted true accounts kind = Bare (record {
  arena = new_bare accounts.0 kind;
  class_arena = new_bare accounts.1 kind;
})
new_hosted false accounts kind = Known (record {
  arena = new_arena accounts.0 kind;
  class_arena = new_arena accounts.1 kind;
})

-- Both accounts are opened over the pool that a seat has, and the arenas have nothing yet.
pub record OpensArenas (is_bare : Bool) (kind : Kind) (held now : HeldState) (hosted : Hosted) : Type 0 where
  pub accounts : AccountState × AccountState
  pub opened : OpenedBothHeld held (Ok accounts) now
  pub is : hosted ≡ new_hosted is_bare accounts kind

-- A block of bare arenas is allocated in a space, or refused, over the pool that a seat has.
pub record TakesBare (space : Space) (words : ℕ) (held : HeldState) (old : BareArenas) (answer : Result Block Refusal)
    (new : BareArenas) (now : HeldState) : Type 0 where
  pub is : BareView
  pub asks : AsksBare words held (bare_in space old) answer is now
  pub new_is : new ≡ with_bare space old is

-- It is placed in the arena's own chunks, or there is no place and nothing changes.
pub record PlacesBare (space : Space) (words : ℕ) (old : BareArenas) (found : Option Block) (new : BareArenas) : Type 0
  where
    pub is : BareView
    pub placing : (live : List (ℕ × List ℕ)) → Places (arena_with (bare_in space old) live) words found
        (arena_with is (live_with live found))
    pub gains : IfSome found (λ block. GainsLive (bare_in space old) block is)
    pub none : IfNone found (is ≡ bare_in space old)
    pub new_is : new ≡ with_bare space old is

-- A block that may be one of its live ones is freed; the other arena stays.
pub record GivesBare (space : Space) (old : BareArenas) (block : Block) (new : BareArenas) : Type 0 where
  pub is : BareView
  pub frees : FreesLive (bare_in space old) block is
  pub new_is : new ≡ with_bare space old is

-- So it is of either.
abbrev pub TakesHosted : Space → ℕ → HeldState → Hosted → Result Block Refusal → Hosted → HeldState → Type 0
TakesHosted space words held (Known old) answer (Known new) now = TakesOver space words held old answer new now
TakesHosted space words held (Bare old) answer (Bare new) now = TakesBare space words held old answer new now
TakesHosted space words held old answer new now = ⊥

abbrev pub PlacesHosted : Space → ℕ → Hosted → Option Block → Hosted → Type 0
PlacesHosted space words (Known old) found (Known new) = PlacesOwn space words old found new
PlacesHosted space words (Bare old) found (Bare new) = PlacesBare space words old found new
PlacesHosted space words old found new = ⊥

-- None of them knows its blocks; and none leaves them to the program.
abbrev pub KnowNone : Option Hosted → Type 0
KnowNone (Some (Known arenas)) = ⊥
KnowNone hosted = Unit {0}

abbrev pub LeaveNone : Option Hosted → Type 0
LeaveNone (Some (Bare arenas)) = ⊥
LeaveNone hosted = Unit {0}

-- What a program owes that gives a block of bare arenas back: it may be one of their live ones.
abbrev pub IsOwed : Space → Block → Option Hosted → Type 0
IsOwed space block (Some (Bare arenas)) = MayHaveBlock (bare_in space arenas) block
IsOwed space block hosted = Unit {0}

-- The words in use; and the sums, where the arenas know their blocks.
abbrev pub words_used_by : Hosted → ℕ
words_used_by hosted = used_of (shown hosted).arena.books + used_of (shown hosted).class_arena.books

abbrev pub TellsSums : Hosted → Option LoaderTotals → Type 0
TellsSums (Known arenas) (Some totals) = AreArenasSums arenas totals
TellsSums (Bare arenas) None = Unit {0}
TellsSums hosted totals = ⊥
