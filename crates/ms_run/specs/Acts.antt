-- Which events on the pool a worker's step is (this project's choice).
use Rattle.std.specs.Prelude.{◌≡◌, ◌≢◌, ℕ, ◌⊎◌, ⊤, Bool, List, [], ◌∷◌, ◌++◌, Option, Some, None, Result, Ok, Err}
use Rattle.ms_base.specs.declared.kind.Kind.{Kind}
use Rattle.ms_base.specs.declared.kind.Space.{Space}
use Rattle.ms_base.specs.declared.kind.Space.TheVariants.{NonClass, Class}
use Rattle.ms_base.specs.declared.span.Span.{Span}
use Rattle.ms_base.specs.declared.span.Block.{Block}
use Rattle.ms_arena.specs.Alloc.{GrowRelation}
use Rattle.ms_base.specs.declared.refusal.Refusal.{Refusal}
use Rattle.ms_base.specs.declared.step.Step.{Step}
use Rattle.ms_base.specs.declared.step.Step.TheVariants.{New, Alloc, Calloc, Write, Read, Free, Unload, Purge}
use Rattle.ms_base.specs.declared.step.Reply.{Reply}
use Rattle.ms_base.specs.declared.step.Reply.TheVariants.{Ok as Done, At, Refused}
use Rattle.ms_base.specs.Names.{named}
use Rattle.ms_base.specs.Request.{loader_of}
use Rattle.ms_pool.specs.Account.{AccountState}
use Rattle.ms_pool.specs.Tallies.{no_tallies}
use Rattle.ms_pool.specs.Ledger.{Ledger, Serves, IsSoundLedger}
use Rattle.ms_pool.specs.Source.{ServesBoth}
use Rattle.ms_pool.specs.Calls.{OpenedBoth, ClosedBoth, Took, Grew, Purged}
use Rattle.ms_base.specs.State.{LoaderState}
use Rattle.ms_base.specs.declared.refusal.Refusal.TheVariants.{OutOfMemory, LoaderExists}
use Rattle.ms_loader.specs.Loader.{LoaderView, account_in, new_loader, with_state, IsSoundView, AllocatesBlock}
use Rattle.ms_loader.specs.Loader.{WritesWord, FreesBlock}
use Rattle.ms_shared.specs.History.{Event}
use Rattle.ms_shared.specs.Weaving.{events_of as events_in_acts, said_of as said_in_acts}
use Rattle.ms_shared.specs.SeatView.{SeatState}
use Rattle.ms_base.specs.Run.Alone.{OwnReply}
use Rattle.ms_loaders.specs.System.{states_of}
use Rattle.ms_base.specs.Run.Own.{Said, own_in}

-- An event from a sound pool to a sound one, and events that are all so.
abbrev pub IsSoundEvent : Event → Type 0
IsSoundEvent event = IsSoundLedger event.0 × IsSoundLedger event.1

abbrev pub AreSound : List Event → Type 0
AreSound [] = ⊤
AreSound (event ∷ events) = IsSoundEvent event × AreSound events

-- A chunk of an account that the pool serves is asked to grow.
pub record IsGrowing (account : AccountState) (answer : Result Span Refusal) (event : Event) : Type 0 where
  pub start : ℕ
  pub total : ℕ
  pub enlarges : Bool
  pub served : Serves event.0 account
  pub grew : Grew event.0 account start total enlarges answer event.1

-- Both accounts of a new loader are opened; those of a loader, which the pool serves, are closed;
-- and the pool is purged.
abbrev pub IsOpening : Kind → LoaderView → Event → Type 0
IsOpening kind loader event =
    (accounts : AccountState × AccountState) × (loader ≡ new_loader accounts.0 accounts.1 kind)
    × OpenedBoth event.0 (Ok accounts) event.1

pub record IsClosing (loader : LoaderView) (event : Event) : Type 0 where
  pub sound : IsSoundLedger event.0
  pub both : ServesBoth Serves event.0 (account_in NonClass loader) (account_in Class loader)
  pub closed : ClosedBoth event.0 (account_in NonClass loader) (account_in Class loader) event.1

abbrev pub IsPurging : Event → Type 0
IsPurging event = (gone : ℕ) × Purged event.0 gone event.1

-- One event, and no other; and an event of a loader that is there.
abbrev pub Once : (Event → Type 0) → List Event → Type 0
Once is (event ∷ []) = is event
Once is _ = ⊥

abbrev pub OfLoader : Option LoaderView → (LoaderView → Event → Type 0) → Event → Type 0
OfLoader (Some loader) is event = is loader event
OfLoader None is event = ⊥

-- What is said of a block: where it starts.
abbrev pub start_of : Result Block Refusal → Result ℕ Refusal
start_of (Ok block) = Ok block.start
start_of (Err refusal) = Err refusal

-- What a growth makes of a pool in an allocation that is done at one event: of one that was refused
-- before nothing is seen.
abbrev pub GrewSeen : GrowRelation Ledger
GrewSeen old account start total enlarges (Ok span) new = Grew old account start total enlarges (Ok span) new
GrewSeen old account start total enlarges (Err refusal) new = new ≡ old

-- An allocation as a whole, by the loader's own relation: its books before and after, its answer,
-- and the pool before and after.
pub record IsAllocation (space : Space) (old new : LoaderView) (name words : ℕ) (answer : Result ℕ Refusal)
    (before after : Ledger) : Type 0 where
  pub made : Result Block Refusal
  pub answer_is : answer ≡ start_of made
  pub allocates : AllocatesBlock GrewSeen Took before.limits.policy space old name words before made new after

abbrev pub LacksGrowth : AccountState → Event → Type 0
LacksGrowth account event = (refusal : Refusal) × IsGrowing account (Err refusal) event

-- Its events: none, whatever the pool is; or one, at which it is done, for the loader's account; or
-- a growth refused, and then one at which it is done.
abbrev pub Asks : Space → LoaderView → LoaderView → ℕ → ℕ → Result ℕ Refusal → List Event → Type 0
Asks space old new name words answer [] = (pool : Ledger) → IsAllocation space old new name words answer pool pool
Asks space old new name words answer (event ∷ []) =
    Serves event.0 (account_in space old) × IsAllocation space old new name words answer event.0 event.1
Asks space old new name words answer (event ∷ other ∷ []) =
    LacksGrowth (account_in space old) event × Serves other.0 (account_in space old)
    × IsAllocation space old new name words answer other.0 other.1
Asks space old new name words answer _ = ⊥

-- So it is of a loader that is there; without one there is no event.
abbrev pub AsksOf : Option LoaderView → Option LoaderView → Space → ℕ → ℕ → Result ℕ Refusal → List Event → Type 0
AsksOf (Some old) (Some new) space name words answer events = Asks space old new name words answer events
AsksOf None None space name words answer events = events ≡ []
AsksOf _ _ space name words answer events = ⊥

-- A New that is refused is no event where the name is used; or an opening that is refused; or an
-- opening, and the closing of what it opened, where memory is wanting then.
abbrev pub LacksLoader : Kind → Refusal → List Event → Type 0
LacksLoader kind refusal [] = refusal ≡ LoaderExists
LacksLoader kind refusal (event ∷ []) = OpenedBoth event.0 (Err refusal) event.1
LacksLoader kind refusal (event ∷ other ∷ []) =
    (refusal ≡ OutOfMemory) × (loader : LoaderView) × IsOpening kind loader event × IsClosing loader other
LacksLoader kind refusal _ = ⊥

-- The events that a step with this reply is, for accounts of the loader that it names. An Unload
-- that is served is one closing, a Purge one purge, and what needs no pool is none.
abbrev pub Makes : List (ℕ × LoaderView) → Step → Reply → List (ℕ × LoaderView) → List Event → Type 0
Makes old (New name kind) Done new events = Once (OfLoader (named new name) (IsOpening kind)) events
Makes old (New name kind) (Refused refusal) new events = LacksLoader kind refusal events
Makes old (Alloc name block words) (At start) new events =
    AsksOf (named old name) (named new name) NonClass block words (Ok start) events
Makes old (Alloc name block words) (Refused refusal) new events =
    AsksOf (named old name) (named new name) NonClass block words (Err refusal) events
Makes old (Calloc name block words) (At start) new events =
    AsksOf (named old name) (named new name) Class block words (Ok start) events
Makes old (Calloc name block words) (Refused refusal) new events =
    AsksOf (named old name) (named new name) Class block words (Err refusal) events
Makes old (Write name block index value) reply new events = events ≡ []
Makes old (Read name block index) reply new events = events ≡ []
Makes old (Free name block) reply new events = events ≡ []
Makes old (Unload name) Done new events = Once (OfLoader (named old name) IsClosing) events
Makes old (Unload name) (Refused refusal) new events = events ≡ []
Makes old Purge Done new events = Once IsPurging events
Makes old _ _ new events = ⊥

-- A seat has these events more, and is of the same lock.
pub record HasMade (old new : SeatState) (are : List Event → Type 0) : Type 0 where
  pub made : List Event
  pub lock : new.id ≡ old.id
  pub events : new.events ≡ old.events ++ made
  pub number : new.number ≡ old.number
  pub sound : AreSound made
  pub are_so : are made

-- A step and its reply, with the events that it is.
abbrev pub Act : Type 0
Act = Said × List Event

abbrev pub said_of : List Act → List Said
said_of = said_in_acts

abbrev pub events_by : List Act → List Event
events_by = events_in_acts

-- One loader changes so, and keeps its owners.
pub record ChangesLoader (old : List (ℕ × LoaderView)) (name : ℕ) (is_so : LoaderState → LoaderState → Type 0)
    (new : List (ℕ × LoaderView)) : Type 0 where
  pub was : LoaderView
  pub is : LoaderView
  pub found : named old name ≡ Some was
  pub after : named new name ≡ Some is
  pub owners : is ≡ with_state was is.state
  pub sound : IsSoundView is
  pub so : is_so was.state is.state

-- What a step changes of loaders where the pool has no part in it: a refused one, one that reads
-- and a purge nothing, one that writes or frees just that; an allocation leaves a sound loader.
abbrev pub Touches : List (ℕ × LoaderView) → Step → Reply → List (ℕ × LoaderView) → Type 0
Touches old step (Refused refusal) new = new ≡ old
Touches old (Alloc name block words) reply new = (is : LoaderView) × (named new name ≡ Some is) × IsSoundView is
Touches old (Calloc name block words) reply new = (is : LoaderView) × (named new name ≡ Some is) × IsSoundView is
Touches old (Write name block index value) reply new =
    ChangesLoader old name (λ was is. WritesWord was block index value is) new
Touches old (Read name block index) reply new = new ≡ old
Touches old (Free name block) reply new = ChangesLoader old name (λ was is. FreesBlock was block is) new
Touches old Purge reply new = new ≡ old
Touches old _ reply new = ⊤

-- The reply to a step is its own loader's, by what that loader was and is then; the loaders that
-- the step doesn't name stay.
pub record IsOwnStep (old : List (ℕ × LoaderView)) (said : Said) (new : List (ℕ × LoaderView)) : Type 0 where
  pub own : (name : ℕ) → loader_of said.0 ≡ Some name
      → (refused : Bool) × OwnReply (own_in (states_of old) name) said.0 refused said.1 (own_in (states_of new) name)
  pub others : (name : ℕ) → loader_of said.0 ≢ Some name → named new name ≡ named old name
  pub touches : Touches old said.0 said.1 new

-- A worker's act: a step on its own loaders, by the events that the step is.
pub record IsAct (old : List (ℕ × LoaderView)) (act : Act) (new : List (ℕ × LoaderView)) : Type 0 where
  pub loaders : IsOwnStep old act.0 new
  pub made : Makes old act.0.0 act.0.1 new act.1
  pub sound : AreSound act.1

-- What a step of the whole sees of a pool: neither counts of open accounts nor tallies.
abbrev pub seen : Ledger → Ledger
seen pool = record pool { opened = 0; class_opened = 0; tallies = no_tallies }

-- The one event at which a step is done. A New that lacks memory is done where accounts were opened
-- in vain.
abbrev pub OpensInVain : Step → Reply → Event → Type 0
OpensInVain (New name kind) (Refused refusal) event =
    (refusal ≡ OutOfMemory) × (loader : LoaderView) × IsOpening kind loader event
OpensInVain _ _ event = ⊥

abbrev pub IsDoneBy : List (ℕ × LoaderView) → Step → Reply → List (ℕ × LoaderView) → Event → Type 0
IsDoneBy old step reply new event = Makes old step reply new (event ∷ []) ⊎ OpensInVain step reply event

-- A worker's step as a whole, on its own loaders and over what is seen of the pool: it leaves the
-- pool, or is done by one event.
pub record IsStep (before : Ledger) (old : List (ℕ × LoaderView)) (said : Said) (after : Ledger)
    (new : List (ℕ × LoaderView)) : Type 0 where
  pub loaders : IsOwnStep old said new
  pub pool : ((after ≡ before) × Makes old said.0 said.1 new [])
      ⊎ ((event : Event) × IsSoundEvent event × (seen event.0 ≡ before) × (seen event.1 ≡ after)
      × IsDoneBy old said.0 said.1 new event)

-- Acts follow one another, over a worker's own loaders.
abbrev pub Works : List (ℕ × LoaderView) → List Act → List (ℕ × LoaderView) → Type 0
Works old [] new = new ≡ old
Works old (act ∷ acts) new = (mid : List (ℕ × LoaderView)) × IsAct old act mid × Works mid acts new

-- What was said came of acts over these loaders, whose events the seat has more.
pub record HasActed (old new : SeatState) (before : List (ℕ × LoaderView)) (said : List Said)
    (after : List (ℕ × LoaderView)) : Type 0 where
  pub acts : List Act
  pub works : Works before acts after
  pub said_are : said_of acts ≡ said
  pub events : new.events ≡ old.events ++ events_by acts
  pub number : new.number ≡ old.number
