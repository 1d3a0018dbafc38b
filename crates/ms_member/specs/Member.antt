-- A seat of a shared pool with the class loader that it serves, as contracts see it, and what each
-- of its calls does.
use Rattle.std.specs.Prelude.{◌≡◌, ◌≢◌, ℕ, ◌+◌, ◌<◌, ◌⊎◌, List, [], ◌∷◌, ◌++◌, Option, Some, None, Result, Ok}
use Rattle.std.specs.Prelude.{Err, OnErr, Bool, map}
use Rattle.std.specs.List.{All, range_with_len}
use Rattle.ms_base.specs.declared.kind.Kind.{Kind}
use Rattle.ms_base.specs.declared.kind.Space.{Space}
use Rattle.ms_base.specs.declared.kind.Space.TheVariants.{NonClass, Class}
use Rattle.ms_base.specs.declared.span.Block.{Block}
use Rattle.ms_base.specs.declared.refusal.Refusal.{Refusal}
use Rattle.ms_base.specs.declared.refusal.Refusal.TheVariants.{NoLoader, LoaderExists, ReserveLimit}
use Rattle.ms_base.specs.declared.step.Reply.{Reply}
use Rattle.ms_base.specs.declared.step.Reply.TheVariants.{Ok as Done, At, Refused}
use Rattle.ms_base.specs.Live.{block_words}
use Rattle.ms_base.specs.Committed.{is_among}
use Rattle.ms_base.specs.Names.{named}
use Rattle.ms_base.specs.Place.{placed}
use Rattle.ms_base.specs.State.{ArenaState, LoaderState, Limits, arena_of}
use Rattle.ms_base.specs.Totals.{used_of}
use Rattle.ms_base.specs.Transition.{with_allocated, zeroed}
use Rattle.ms_arena.specs.Arena.{IsAskable}
use Rattle.ms_pool.specs.Account.{AccountState}
use Rattle.ms_pool.specs.Ledger.{Ledger, empty_ledger}
use Rattle.ms_loader.specs.Loader.{LoaderView, account_in, new_loader, with_state, AllocatesBlock, NameRefused}
use Rattle.ms_loader.specs.Loader.{FreesBlock, LacksName}
use Rattle.ms_loader.specs.ArenaSums.{AreSumsIn}
use Rattle.ms_loaders.specs.declared.system.sums.LoaderTotals.{LoaderTotals}
use Rattle.ms_shared.specs.declared.lock_rule.SeatView.{SeatView}
use Rattle.ms_shared.specs.SeatView.{LockState, SeatState, HeldState, ServesBy, opened_by, new_seats}
use Rattle.ms_member.specs.declared.member.hosted.Hosted.{Hosted}
use Rattle.ms_loaders.specs.declared.system.committing.GranuleRun.{GranuleRun}
use Rattle.ms_member.specs.Arenas.{ServesArenas}
use Rattle.ms_member.specs.Hosted.{shown}
use Rattle.ms_member.specs.Uncommitted.{is_uncommitted, commits_in, IsNext}
use Rattle.ms_shared.specs.LockCalls.{TookHeld, GrewHeld, OpenedBothHeld, ClosedBothHeld, PurgedHeld}

-- The seat, alone or with the pool that it has; seats to spare; and the loader, if there is one, or
-- the arenas of one without names.
pub record MemberState : Type 0 where
  pub seat : Option SeatState
  pub held : Option HeldState
  pub spare : List SeatState
  pub loader : Option LoaderView
  pub arenas : Option Hosted

-- A seat serves a loader: both its accounts, which are two, and it counts some in each space.
pub record ServesLoader (knows : SeatView) (loader : LoaderView) : Type 0 where
  pub served : (space : Space) → ServesBy knows (account_in space loader)
  pub counted : (space : Space) → 0 < opened_by knows space
  pub apart : loader.owner ≢ loader.class_owner

abbrev pub ServesIt : SeatView → Option LoaderView → Type 0
ServesIt knows None = Unit {0}
ServesIt knows (Some loader) = ServesLoader knows loader

-- There is one seat, of this lock, with the pool or without, and it serves the loader.
abbrev pub IsSeated : LockState → Option SeatState → Option HeldState → Option LoaderView → Type 0
IsSeated lock (Some seat) None loader = (seat.id ≡ lock.id) × ServesIt seat.knows loader
IsSeated lock None (Some held) loader = (held.seat.id ≡ lock.id) × ServesIt held.seat.knows loader
IsSeated lock _ _ loader = ⊥

-- It serves the arenas, where there are any, and then there is no loader.
abbrev pub HostsArenas : Option Hosted → Option SeatState → Option HeldState → Option LoaderView → Type 0
HostsArenas None seat held loader = Unit {0}
HostsArenas (Some arenas) (Some seat) None None = ServesArenas seat.knows (shown arenas)
HostsArenas (Some arenas) None (Some held) None = ServesArenas held.seat.knows (shown arenas)
HostsArenas (Some arenas) _ _ _ = ⊥

-- A seat without the pool and without a loader.
abbrev pub free_seat : SeatState → List SeatState → MemberState
free_seat seat spare = record { seat = Some seat; held = None; spare = spare; loader = None; arenas = None }

-- The first seat of a new pool has all others to spare.
pub record IsFirst (limits : Limits) (count : ℕ) (now : MemberState) : Type 0 where
  pub lock : LockState
  pub seat : SeatState
  pub spare : List SeatState
  pub all : spare ++ seat ∷ [] ≡ new_seats lock.id count (empty_ledger limits)
  pub now_is : now ≡ free_seat seat spare

-- One of the seats to spare becomes a member of its own.
pub record Splits (old new other : MemberState) : Type 0 where
  pub seat : SeatState
  pub spare : List SeatState
  pub cut : old.spare ≡ spare ++ seat ∷ []
  pub new_is : new ≡ record old { spare = spare }
  pub other_is : other ≡ free_seat seat []

-- The seat has the pool.
abbrev pub HasPool : MemberState → Type 0
HasPool now = (held : HeldState) × (now.held ≡ Some held)

-- The seat takes the pool, whatever the pool then is.
pub record TakesPool (old new : MemberState) : Type 0 where
  pub seat : SeatState
  pub held : HeldState
  pub was : old.seat ≡ Some seat
  pub same : held.seat ≡ seat
  pub new_is : new ≡ record old { seat = None; held = Some held }

-- It has the pool then: it took it, or had it.
abbrev pub Holds : MemberState → MemberState → Type 0
Holds old new = TakesPool old new ⊎ (HasPool old × (new ≡ old))

-- The seat gives the pool back, as it is.
pub record LetsGo (old new : MemberState) : Type 0 where
  pub held : HeldState
  pub was : old.held ≡ Some held
  pub new_is : new ≡ record old { seat = Some held.seat; held = None }

-- The seat doesn't have the pool, and nothing changes.
abbrev pub LacksPool : MemberState → MemberState → Type 0
LacksPool old new = (old.held ≡ None) × (new ≡ old)

-- A call on the pool that the seat has leaves both as one event does, and the loader as it is then.
pub record CallsPool (is : HeldState → HeldState → Type 0) (old : MemberState) (loader : Option LoaderView)
    (new : MemberState) : Type 0 where
  pub held : HeldState
  pub now : HeldState
  pub was : old.held ≡ Some held
  pub called : is held now
  pub new_is : new ≡ record old { held = Some now; loader = loader }

-- A loader is made: both its accounts are opened.
pub record MakesLoader (kind : Kind) (old new : MemberState) : Type 0 where
  pub accounts : AccountState × AccountState
  pub none : old.loader ≡ None
  pub opened : CallsPool (λ held now. OpenedBothHeld held (Ok accounts) now) old
      (Some (new_loader accounts.0 accounts.1 kind)) new

-- There is a loader, with names or without.
abbrev pub HasLoader : MemberState → Type 0
HasLoader now =
    ((loader : LoaderView) × (now.loader ≡ Some loader)) ⊎ ((arenas : Hosted) × (now.arenas ≡ Some arenas))

-- Why none is made: there is one; or the pool has no numbers left.
abbrev pub MakesNone : MemberState → Refusal → MemberState → Type 0
MakesNone old refusal new =
    ((refusal ≡ LoaderExists) × HasLoader old × (new ≡ old))
    ⊎ ((old.loader ≡ None) × CallsPool (λ held now. OpenedBothHeld held (Err refusal) now) old None new)

abbrev pub AnswersNew : Kind → MemberState → Option Reply → MemberState → Type 0
AnswersNew kind old None new = LacksPool old new
AnswersNew kind old (Some Done) new = MakesLoader kind old new
AnswersNew kind old (Some (Refused refusal)) new = MakesNone old refusal new
AnswersNew kind old (Some _) new = ⊥

-- There is no loader, and nothing changes.
abbrev pub FindsNone : MemberState → Refusal → MemberState → Type 0
FindsNone old refusal new = (refusal ≡ NoLoader) × (old.loader ≡ None) × (new ≡ old)

-- The loader is unloaded: both its accounts are closed, and it is gone.
pub record Unloads (old new : MemberState) : Type 0 where
  pub loader : LoaderView
  pub found : old.loader ≡ Some loader
  pub closed : CallsPool (λ held now. ClosedBothHeld held (account_in NonClass loader) (account_in Class loader) now)
      old None new

abbrev pub AnswersUnload : MemberState → Option Reply → MemberState → Type 0
AnswersUnload old None new = LacksPool old new
AnswersUnload old (Some Done) new = Unloads old new
AnswersUnload old (Some (Refused refusal)) new = FindsNone old refusal new
AnswersUnload old (Some _) new = ⊥

-- A block is allocated, or refused, over the pool that the seat has.
pub record AllocatesOver (space : Space) (block words : ℕ) (old : MemberState) (answer : Result Block Refusal)
    (new : MemberState) : Type 0 where
  pub loader : LoaderView
  pub is : LoaderView
  pub found : old.loader ≡ Some loader
  pub unchanged : OnErr answer (is ≡ loader)
  pub called : CallsPool (λ (held : HeldState) now. AllocatesBlock GrewHeld TookHeld held.seat.knows.limits.policy space
      loader block words held answer is now) old (Some is) new

-- A loader places a block in its own chunks, without a further one.
pub record PlacesIn (space : Space) (block words start : ℕ) (old new : LoaderView) : Type 0 where
  pub place : ℕ × ArenaState
  pub unused : named old.state.blocks block ≡ None
  pub askable : IsAskable words
  pub placed_is : placed (arena_of space old.state) (block_words words) ≡ Some place
  pub start_is : start ≡ place.0
  pub new_is : new ≡ with_state old (with_allocated space old.state place.1 block (zeroed start (block_words words)))

-- What a loader answers alone: none where it needs a further chunk.
abbrev pub AnswersAlone : Space → ℕ → ℕ → LoaderView → Option Reply → LoaderView → Type 0
AnswersAlone space block words old None new = new ≡ old
AnswersAlone space block words old (Some (At start)) new = PlacesIn space block words start old new
AnswersAlone space block words old (Some (Refused refusal)) new =
    NameRefused old block words refusal × (new ≡ old)
AnswersAlone space block words old (Some _) new = ⊥

-- A block is placed without the pool.
pub record Places (space : Space) (block words start : ℕ) (old new : MemberState) : Type 0 where
  pub loader : LoaderView
  pub is : LoaderView
  pub found : old.loader ≡ Some loader
  pub alone : old.held ≡ None
  pub placed_so : PlacesIn space block words start loader is
  pub new_is : new ≡ record old { loader = Some is }

-- The block's name is used, or its words aren't allowed, or memory for its name is wanting.
pub record RefusesName (block words : ℕ) (old : MemberState) (refusal : Refusal) (new : MemberState) : Type 0 where
  pub loader : LoaderView
  pub found : old.loader ≡ Some loader
  pub cause : NameRefused loader block words refusal
  pub same : new ≡ old

abbrev pub AnswersAlloc : Space → ℕ → ℕ → MemberState → Option Reply → MemberState → Type 0
AnswersAlloc space block words old None new = LacksPool old new
AnswersAlloc space block words old (Some (At start)) new =
    ((made : Block) × (start ≡ made.start) × AllocatesOver space block words old (Ok made) new)
    ⊎ Places space block words start old new
AnswersAlloc space block words old (Some (Refused refusal)) new =
    FindsNone old refusal new ⊎ RefusesName block words old refusal new
    ⊎ AllocatesOver space block words old (Err refusal) new
AnswersAlloc space block words old (Some _) new = ⊥

-- A block is freed.
pub record Frees (block : ℕ) (old new : MemberState) : Type 0 where
  pub loader : LoaderView
  pub now : LoaderState
  pub found : old.loader ≡ Some loader
  pub freed : FreesBlock loader.state block now
  pub new_is : new ≡ record old { loader = Some (with_state loader now) }

-- The loader has no block of the name.
pub record LacksBlock (block : ℕ) (old : MemberState) (refusal : Refusal) (new : MemberState) : Type 0 where
  pub loader : LoaderView
  pub found : old.loader ≡ Some loader
  pub cause : LacksName loader.state block refusal
  pub same : new ≡ old

abbrev pub AnswersFree : ℕ → MemberState → Option Reply → MemberState → Type 0
AnswersFree block old (Some Done) new = Frees block old new
AnswersFree block old (Some (Refused refusal)) new = FindsNone old refusal new ⊎ LacksBlock block old refusal new
AnswersFree block old _ new = ⊥

-- The words in use of the loader, and 0 where there is none.
abbrev pub used_of_it : Option LoaderView → ℕ
used_of_it None = 0
used_of_it (Some loader) = used_of loader.state.arena + used_of loader.state.class_arena

-- None is left to spare, and nothing changes.
abbrev pub LacksSpare : MemberState → MemberState → Type 0
LacksSpare old new = (old.spare ≡ []) × (new ≡ old)

-- All are seats of a lock; and the first member of the lock that has them.
abbrev pub AreSeatsOf : LockState → List SeatState → Type 0
AreSeatsOf lock seats = All (λ (seat : SeatState). seat.id ≡ lock.id) seats

pub record IsFirstOf (seats : List SeatState) (now : MemberState) : Type 0 where
  pub seat : SeatState
  pub spare : List SeatState
  pub all : seats ≡ spare ++ seat ∷ []
  pub now_is : now ≡ free_seat seat spare

-- What is told of a loader's answer without the pool.
abbrev pub alone_told : Result Block Refusal → Option Reply
alone_told (Ok made) = Some (At made.start)
alone_told (Err (ReserveLimit nodes limit)) = None
alone_told (Err refusal) = Some (Refused refusal)

-- Both accounts of a loader are opened over the pool that a seat has.
pub record OpensLoader (kind : Kind) (held now : HeldState) (loader : LoaderView) : Type 0 where
  pub accounts : AccountState × AccountState
  pub opened : OpenedBothHeld held (Ok accounts) now
  pub loader_is : loader ≡ new_loader accounts.0 accounts.1 kind

-- The granule at an index after the first is committed in a pool.
abbrev pub granule_at : Ledger → ℕ → ℕ → Bool
granule_at pool first index = is_among (pool.committed ++ pool.class_committed) (first + index)

-- Of so many granules from the first on, whether each is committed in the pool that the seat has.
pub record TellsPool (member : MemberState) (first count : ℕ) (bits : List Bool) : Type 0 where
  pub held : HeldState
  pub has : member.held ≡ Some held
  pub bits_are : bits ≡ map (granule_at held.pool first) (range_with_len 0 count)

-- The next run, from a granule on, of those that were committed by their flags and are no more in
-- the pool that the seat has.
pub record FindsRun (member : MemberState) (was : List Bool) (from : ℕ) (run : GranuleRun) : Type 0 where
  pub held : HeldState
  pub has : member.held ≡ Some held
  pub next : IsNext (is_uncommitted was (commits_in held.pool.committed held.pool.class_committed)) from run

-- What is told of a loader's answer over the pool.
abbrev pub block_told : Result Block Refusal → Reply
block_told (Ok made) = At made.start
block_told (Err refusal) = Refused refusal

-- A loader is asked for a block over the pool that a seat has.
pub record AsksOver (space : Space) (block words : ℕ) (held : HeldState) (loader : LoaderView) (reply : Reply)
    (new : Option LoaderView) (now : HeldState) : Type 0 where
  pub is : LoaderView
  pub answer : Result Block Refusal
  pub new_is : new ≡ Some is
  pub reply_is : reply ≡ block_told answer
  pub unchanged : OnErr answer (is ≡ loader)
  pub allocates : AllocatesBlock GrewHeld TookHeld held.seat.knows.limits.policy space loader block words held answer
      is now

-- So it is of the loader that is there.
abbrev pub AnswersOver : Space → ℕ → ℕ → HeldState → Option LoaderView → Reply → Option LoaderView → HeldState → Type 0
AnswersOver space block words held None reply new now = (reply ≡ Refused NoLoader) × (new ≡ None) × (now ≡ held)
AnswersOver space block words held (Some loader) reply new now = AsksOver space block words held loader reply new now

-- And without the pool.
abbrev pub AnswersWithout : Space → ℕ → ℕ → Option LoaderView → Option Reply → Option LoaderView → Type 0
AnswersWithout space block words None reply new = (reply ≡ Some (Refused NoLoader)) × (new ≡ None)
AnswersWithout space block words (Some loader) reply new =
    (is : LoaderView) × (new ≡ Some is) × AnswersAlone space block words loader reply is

-- A block of the loader that is there is freed, or is not.
abbrev pub AnswersFreeing : ℕ → LoaderView → Reply → LoaderView → Type 0
AnswersFreeing block old Done new = FreesBlock old.state block new.state × (new ≡ with_state old new.state)
AnswersFreeing block old (Refused refusal) new = LacksName old.state block refusal × (new ≡ old)
AnswersFreeing block old _ new = ⊥

abbrev pub FreesIn : ℕ → Option LoaderView → Reply → Option LoaderView → Type 0
FreesIn block None reply new = (reply ≡ Refused NoLoader) × (new ≡ None)
FreesIn block (Some loader) reply new = (is : LoaderView) × (new ≡ Some is) × AnswersFreeing block loader reply is

-- The nodes without a chunk are given back, so many, over the pool that the seat has.
abbrev pub Purges : MemberState → ℕ → MemberState → Type 0
Purges old gone new = CallsPool (λ held now. PurgedHeld held gone now) old old.loader new

-- The totals are the kind of the seat's loader, and the sums over its arena in each space.
pub record AreItsSums (member : MemberState) (totals : LoaderTotals) : Type 0 where
  pub loader : LoaderView
  pub found : member.loader ≡ Some loader
  pub kind : totals.kind ≡ loader.state.kind
  pub space : AreSumsIn NonClass totals.space loader.state
  pub class_space : AreSumsIn Class totals.class_space loader.state
