-- What the calls of a loader without names do to the member that has it: as with names, but that a
-- block is known by its space, its start and its words.
use Rattle.std.specs.Prelude.{◌≡◌, ℕ, ◌⊎◌, Bool, Option, Some, None, Result, Ok, Err, OnErr}
use Rattle.ms_base.specs.declared.kind.Kind.{Kind}
use Rattle.ms_base.specs.declared.kind.Space.{Space}
use Rattle.ms_base.specs.declared.span.Block.{Block}
use Rattle.ms_base.specs.declared.refusal.Refusal.{Refusal}
use Rattle.ms_base.specs.declared.refusal.Refusal.TheVariants.{NoLoader, NotLive}
use Rattle.ms_base.specs.declared.step.Reply.{Reply}
use Rattle.ms_base.specs.declared.step.Reply.TheVariants.{Ok as Done, At, Refused}
use Rattle.ms_loader.specs.Loader.{LoaderView}
use Rattle.ms_loaders.specs.declared.system.sums.LoaderTotals.{LoaderTotals}
use Rattle.ms_arena.specs.Arena.{account_of, PlaceRefused, IsNotLive}
use Rattle.ms_shared.specs.declared.lock_rule.SeatView.{SeatView}
use Rattle.ms_shared.specs.SeatView.{HeldState}
use Rattle.ms_shared.specs.LockCalls.{ClosedBothHeld}
use Rattle.ms_member.specs.declared.member.arenas.Arenas.{Arenas}
use Rattle.ms_member.specs.declared.member.bare.BareArenas.{BareArenas}
use Rattle.ms_member.specs.declared.member.hosted.Hosted.{Hosted}
use Rattle.ms_member.specs.declared.member.hosted.Hosted.TheVariants.{Known, Bare}
use Rattle.ms_member.specs.Arenas.{ServesArenas, GivesBlock, arena_in}
use Rattle.ms_member.specs.Hosted.{shown, OpensArenas, TakesHosted, PlacesHosted, GivesBare, KnowNone, LeaveNone}
use Rattle.ms_member.specs.Hosted.{words_used_by, TellsSums}
use Rattle.ms_member.specs.Member.{MemberState, LacksPool, MakesNone, AnswersUnload, AreItsSums, used_of_it, block_told}

-- A seat serves the arenas that there are.
abbrev pub ServesAny : SeatView → Option Hosted → Type 0
ServesAny knows None = Unit {0}
ServesAny knows (Some arenas) = ServesArenas knows (shown arenas)

-- A loader without names is made over the pool that the seat has; it knows its blocks, or is bare.
pub record MakesArenas (is_bare : Bool) (kind : Kind) (old new : MemberState) : Type 0 where
  pub held : HeldState
  pub now : HeldState
  pub arenas : Hosted
  pub none : old.loader ≡ None
  pub none_too : old.arenas ≡ None
  pub was : old.held ≡ Some held
  pub opened : OpensArenas is_bare kind held now arenas
  pub new_is : new ≡ record old { held = Some now; arenas = Some arenas }

abbrev pub AnswersNewArenas : Bool → Kind → MemberState → Option Reply → MemberState → Type 0
AnswersNewArenas is_bare kind old None new = LacksPool old new
AnswersNewArenas is_bare kind old (Some Done) new = MakesArenas is_bare kind old new
AnswersNewArenas is_bare kind old (Some (Refused refusal)) new = MakesNone old refusal new
AnswersNewArenas is_bare kind old (Some _) new = ⊥

-- There is no loader without names, and nothing changes.
abbrev pub FindsNoArenas : MemberState → Refusal → MemberState → Type 0
FindsNoArenas old refusal new = (refusal ≡ NoLoader) × (old.arenas ≡ None) × (new ≡ old)

-- It is unloaded: both its accounts are closed, and it is gone.
pub record UnloadsArenas (old new : MemberState) : Type 0 where
  pub arenas : Hosted
  pub held : HeldState
  pub now : HeldState
  pub found : old.arenas ≡ Some arenas
  pub was : old.held ≡ Some held
  pub closed : ClosedBothHeld held (account_of (shown arenas).arena) (account_of (shown arenas).class_arena) now
  pub new_is : new ≡ record old { held = Some now; arenas = None }

abbrev pub AnswersUnloadArenas : MemberState → Option Reply → MemberState → Type 0
AnswersUnloadArenas old None new = LacksPool old new
AnswersUnloadArenas old (Some Done) new = UnloadsArenas old new
AnswersUnloadArenas old (Some (Refused refusal)) new = FindsNoArenas old refusal new
AnswersUnloadArenas old (Some _) new = ⊥

-- The seat's loader is unloaded, with names or without.
abbrev pub AnswersUnloadOf : Option Hosted → MemberState → Option Reply → MemberState → Type 0
AnswersUnloadOf None old reply new = AnswersUnload old reply new
AnswersUnloadOf (Some arenas) old reply new = AnswersUnloadArenas old reply new

abbrev pub AnswersUnloadAny : MemberState → Option Reply → MemberState → Type 0
AnswersUnloadAny old reply new = AnswersUnloadOf old.arenas old reply new

-- The words in use of the loader that there is, and 0 where there is none.
abbrev pub used_of_them : Option Hosted → Option LoaderView → ℕ
used_of_them None loader = used_of_it loader
used_of_them (Some arenas) loader = words_used_by arenas

-- The totals are the sums of the loader that there is, with names or without.
abbrev pub AreTheirSums : Option Hosted → MemberState → LoaderTotals → Type 0
AreTheirSums None member totals = AreItsSums member totals
AreTheirSums (Some arenas) member totals = TellsSums arenas (Some totals)

-- There is none that knows its blocks.
abbrev pub KnowsNoBlocks : MemberState → Type 0
KnowsNoBlocks member = (member.loader ≡ None) × KnowNone member.arenas

-- The arenas are asked for a block over the pool that a seat has.
pub record AsksArenas (space : Space) (words : ℕ) (held : HeldState) (old : Hosted) (reply : Reply)
    (new : Option Hosted) (now : HeldState) : Type 0 where
  pub is : Hosted
  pub answer : Result Block Refusal
  pub new_is : new ≡ Some is
  pub reply_is : reply ≡ block_told answer
  pub unchanged : OnErr answer (is ≡ old)
  pub takes : TakesHosted space words held old answer is now

abbrev pub TakesAny : Space → ℕ → HeldState → Option Hosted → Reply → Option Hosted → HeldState → Type 0
TakesAny space words held None reply new now = (reply ≡ Refused NoLoader) × (new ≡ None) × (now ≡ held)
TakesAny space words held (Some arenas) reply new now = AsksArenas space words held arenas reply new now

-- What they answer without the pool: none where they have no place for the block.
abbrev pub AnswersOwn : Space → ℕ → Hosted → Option Reply → Hosted → Type 0
AnswersOwn space words old None new = new ≡ old
AnswersOwn space words old (Some (At start)) new =
    (made : Block) × (start ≡ made.start) × PlacesHosted space words old (Some made) new
AnswersOwn space words old (Some (Refused refusal)) new = PlaceRefused words refusal × (new ≡ old)
AnswersOwn space words old (Some _) new = ⊥

abbrev pub TakesAlone : Space → ℕ → Option Hosted → Option Reply → Option Hosted → Type 0
TakesAlone space words None reply new = (reply ≡ Some (Refused NoLoader)) × (new ≡ None)
TakesAlone space words (Some arenas) reply new =
    (is : Hosted) × (new ≡ Some is) × AnswersOwn space words arenas reply is

abbrev pub placed_told : Result (Option Block) Refusal → Option Reply
placed_told (Ok (Some made)) = Some (At made.start)
placed_told (Ok None) = None
placed_told (Err refusal) = Some (Refused refusal)

-- The member's block is allocated, or refused, over the pool that the seat has.
pub record TakesBlock (space : Space) (words : ℕ) (old : MemberState) (answer : Result Block Refusal)
    (new : MemberState) : Type 0 where
  pub held : HeldState
  pub now : HeldState
  pub arenas : Hosted
  pub is : Hosted
  pub found : old.arenas ≡ Some arenas
  pub was : old.held ≡ Some held
  pub unchanged : OnErr answer (is ≡ arenas)
  pub takes : TakesHosted space words held arenas answer is now
  pub new_is : new ≡ record old { held = Some now; arenas = Some is }

-- It is placed without the pool; and its words aren't allowed, or memory is wanting.
pub record PlacesBlock (space : Space) (words start : ℕ) (old new : MemberState) : Type 0 where
  pub arenas : Hosted
  pub is : Hosted
  pub made : Block
  pub found : old.arenas ≡ Some arenas
  pub alone : old.held ≡ None
  pub start_is : start ≡ made.start
  pub placing : PlacesHosted space words arenas (Some made) is
  pub new_is : new ≡ record old { arenas = Some is }

pub record RefusesWords (words : ℕ) (old : MemberState) (refusal : Refusal) (new : MemberState) : Type 0 where
  pub arenas : Hosted
  pub found : old.arenas ≡ Some arenas
  pub cause : PlaceRefused words refusal
  pub same : new ≡ old

abbrev pub AnswersTake : Space → ℕ → MemberState → Option Reply → MemberState → Type 0
AnswersTake space words old None new = LacksPool old new
AnswersTake space words old (Some (At start)) new =
    ((made : Block) × (start ≡ made.start) × TakesBlock space words old (Ok made) new)
    ⊎ PlacesBlock space words start old new
AnswersTake space words old (Some (Refused refusal)) new =
    FindsNoArenas old refusal new ⊎ RefusesWords words old refusal new ⊎ TakesBlock space words old (Err refusal) new
AnswersTake space words old (Some _) new = ⊥

-- A block of the arenas is freed, or is not: bare ones know no block.
abbrev pub AnswersGiving : Space → Block → Hosted → Reply → Hosted → Type 0
AnswersGiving space block (Known old) Done (Known new) = GivesBlock space old block new
AnswersGiving space block (Known old) (Refused refusal) new =
    (refusal ≡ NotLive) × IsNotLive (arena_in space old) block × (new ≡ Known old)
AnswersGiving space block (Bare old) (Refused refusal) new = (refusal ≡ NoLoader) × (new ≡ Bare old)
AnswersGiving space block old _ new = ⊥

abbrev pub GivesAny : Space → Block → Option Hosted → Reply → Option Hosted → Type 0
GivesAny space block None reply new = (reply ≡ Refused NoLoader) × (new ≡ None)
GivesAny space block (Some arenas) reply new =
    (is : Hosted) × (new ≡ Some is) × AnswersGiving space block arenas reply is

-- The member's live block is freed; it is not live there; and there is no loader that knows it.
pub record GivesIt (space : Space) (block : Block) (old new : MemberState) : Type 0 where
  pub arenas : Arenas
  pub is : Arenas
  pub found : old.arenas ≡ Some (Known arenas)
  pub gives : GivesBlock space arenas block is
  pub new_is : new ≡ record old { arenas = Some (Known is) }

pub record LacksIt (space : Space) (block : Block) (old : MemberState) (refusal : Refusal) (new : MemberState) : Type 0
  where
    pub arenas : Arenas
    pub found : old.arenas ≡ Some (Known arenas)
    pub not_live : refusal ≡ NotLive
    pub cause : IsNotLive (arena_in space arenas) block
    pub same : new ≡ old

abbrev pub FindsNoKnown : MemberState → Refusal → MemberState → Type 0
FindsNoKnown old refusal new = (refusal ≡ NoLoader) × KnowNone old.arenas × (new ≡ old)

abbrev pub AnswersGive : Space → Block → MemberState → Option Reply → MemberState → Type 0
AnswersGive space block old (Some Done) new = GivesIt space block old new
AnswersGive space block old (Some (Refused refusal)) new =
    FindsNoKnown old refusal new ⊎ LacksIt space block old refusal new
AnswersGive space block old _ new = ⊥

-- A block of bare arenas is freed; and there are none.
pub record FreesBareOf (space : Space) (block : Block) (old new : MemberState) : Type 0 where
  pub arenas : BareArenas
  pub is : BareArenas
  pub found : old.arenas ≡ Some (Bare arenas)
  pub gives : GivesBare space arenas block is
  pub new_is : new ≡ record old { arenas = Some (Bare is) }

abbrev pub AnswersGiveBare : Space → Block → MemberState → Option Reply → MemberState → Type 0
AnswersGiveBare space block old (Some Done) new = FreesBareOf space block old new
AnswersGiveBare space block old (Some (Refused refusal)) new =
    (refusal ≡ NoLoader) × LeaveNone old.arenas × (new ≡ old)
AnswersGiveBare space block old _ new = ⊥

abbrev pub FreesOf : Space → Block → Hosted → Reply → Hosted → Type 0
FreesOf space block (Bare old) Done (Bare new) = GivesBare space old block new
FreesOf space block (Known old) (Refused refusal) new = (refusal ≡ NoLoader) × (new ≡ Known old)
FreesOf space block old _ new = ⊥

abbrev pub FreesAny : Space → Block → Option Hosted → Reply → Option Hosted → Type 0
FreesAny space block None reply new = (reply ≡ Refused NoLoader) × (new ≡ None)
FreesAny space block (Some arenas) reply new = (is : Hosted) × (new ≡ Some is) × FreesOf space block arenas reply is
