-- How steps are spread over events, and the order in which they count as done.
use Rattle.std.specs.Prelude.{◌≡◌, ℕ, ◌⊎◌, Bool, ⊤, List, [], ◌∷◌, ◌++◌, map, Option, Some, None}
use Rattle.std.specs.List.{All, filter, flat_map}
use Rattle.ms_base.specs.declared.kind.Kind.{Kind}
use Rattle.ms_base.specs.declared.kind.Space.{Space}
use Rattle.ms_base.specs.declared.kind.Space.TheVariants.{NonClass, Class}
use Rattle.ms_base.specs.declared.span.Chunk.{Chunk}
use Rattle.ms_base.specs.declared.step.Step.{Step}
use Rattle.ms_base.specs.declared.step.Step.TheVariants.{New, Alloc, Calloc, Unload, Purge}
use Rattle.ms_base.specs.declared.step.Reply.{Reply}
use Rattle.ms_base.specs.declared.step.Reply.TheVariants.{Ok as Done, At, Refused}
use Rattle.ms_base.specs.declared.refusal.Refusal.{Refusal}
use Rattle.ms_base.specs.declared.refusal.Refusal.TheVariants.{CommitLimit, ReserveLimit, OutOfMemory, IdsUsedUp}
use Rattle.ms_base.specs.Level.{level_that_holds}
use Rattle.ms_base.specs.Request.{is_name}
use Rattle.ms_base.specs.State.{LoaderState, Machine, arena_of}
use Rattle.ms_base.specs.Live.{block_words}
use Rattle.ms_base.specs.Place.{current}
use Rattle.ms_base.specs.Asks.{may_enlarge, total_asked, wanted_level}
use Rattle.ms_base.specs.Transition.{HasLoader}
use Rattle.ms_base.specs.Run.Event.{Event, opening, taking, growing, closing, purging, telling, acting, Answer, accepted}
use Rattle.ms_base.specs.Run.Event.{lent, counted, replied, refused, Happens, loader_of_event}

-- A step as it is spread: a request, its reply, and its events with their answers, in their order.
pub record SpreadStep : Type 0 where
  pub step : Step
  pub reply : Reply
  pub events : List (Event × Answer)

-- A moment: an event as it happens between two states, and the step whose event it is, none where
-- the pool tells its totals.
pub record Moment : Type 0 where
  pub before : Machine
  pub event : Event
  pub answer : Answer
  pub after : Machine
  pub of : Option SpreadStep

-- From old on, the moments follow one another, each event as it may happen, and the last leaves
-- new.
abbrev pub Follow : Machine → List Moment → Machine → Type 0
Follow old [] new = new ≡ old
Follow old (moment ∷ moments) new =
    (moment.before ≡ old) × Happens old moment.event moment.answer moment.after × Follow moment.after moments new

-- A reply that a local event gives by itself: no limit of the pool's.
abbrev pub IsOwnReply : Reply → Type 0
IsOwnReply (Refused (CommitLimit committed limit need)) = ⊥
IsOwnReply (Refused (ReserveLimit nodes limit)) = ⊥
IsOwnReply _ = ⊤

-- A request that doesn't need the pool is its local event alone.
pub record IsAlone (step : Step) (reply : Reply) (events : List (Event × Answer)) : Type 0 where
  pub own : IsOwnReply reply
  pub events_are : events ≡ (acting step, replied reply) ∷ []

-- A New is one opening, with a closing after it where memory is wanting then.
abbrev pub SpreadsNew : ℕ → Kind → Reply → List (Event × Answer) → Type 0
SpreadsNew name kind Done events = events ≡ (opening name kind, accepted) ∷ []
SpreadsNew name kind (Refused IdsUsedUp) events = events ≡ (opening name kind, refused IdsUsedUp) ∷ []
SpreadsNew name kind (Refused OutOfMemory) events =
    (events ≡ (opening name kind, accepted) ∷ (closing name, accepted) ∷ [])
    ⊎ IsAlone (New name kind) (Refused OutOfMemory) events
SpreadsNew name kind reply events = IsAlone (New name kind) reply events

-- A growth that an allocation asks for is answered by a chunk, and its local event adds the block.
pub record GrowsFirst (space : Space) (name : ℕ) (step : Step) (reply : Reply)
    (events : List (Event × Answer)) : Type 0 where
  pub start : ℕ
  pub total : ℕ
  pub enlarges : Bool
  pub chunk : Chunk
  pub at : ℕ
  pub served : reply ≡ At at
  pub events_are : events ≡ (growing space name start total enlarges, lent chunk) ∷ (acting step, replied (At at)) ∷ []

-- A chunk that it asks for is answered, and its local event adds the block.
pub record TakesFirst (space : Space) (name : ℕ) (step : Step) (reply : Reply)
    (events : List (Event × Answer)) : Type 0 where
  pub p : ℕ
  pub m : ℕ
  pub words : ℕ
  pub chunk : Chunk
  pub at : ℕ
  pub served : reply ≡ At at
  pub events_are : events ≡ (taking space name p m words, lent chunk) ∷ (acting step, replied (At at)) ∷ []

-- A chunk that it asks for is refused, and its local event passes the refusal on.
pub record PassesOn (space : Space) (name : ℕ) (step : Step) (reply : Reply)
    (events : List (Event × Answer)) : Type 0 where
  pub p : ℕ
  pub m : ℕ
  pub words : ℕ
  pub refusal : Refusal
  pub passed : reply ≡ Refused refusal
  pub events_are : events
      ≡ (taking space name p m words, refused refusal) ∷ (acting step, replied (Refused refusal)) ∷ []

-- No growth was asked for, or one that was refused.
pub data HasNoSpan (space : Space) (name : ℕ) : List (Event × Answer) → Type 0 where
  not_asked : HasNoSpan space name []
  not_had : (start total : ℕ) (enlarges : Bool) (refusal : Refusal)
      → HasNoSpan space name ((growing space name start total enlarges, refused refusal) ∷ [])

-- What comes of an allocation where no growth was had: a chunk is asked for, or none is, and its
-- local event serves or refuses it.
abbrev pub GoesOn : Space → ℕ → Step → Reply → List (Event × Answer) → Type 0
GoesOn space name step reply events =
    TakesFirst space name step reply events ⊎ PassesOn space name step reply events ⊎ IsAlone step reply events

-- Where no growth was had, what comes after.
pub record GoesOnAfter (space : Space) (name : ℕ) (step : Step) (reply : Reply)
    (events : List (Event × Answer)) : Type 0 where
  pub asked : List (Event × Answer)
  pub rest : List (Event × Answer)
  pub no_span : HasNoSpan space name asked
  pub goes_on : GoesOn space name step reply rest
  pub events_are : events ≡ asked ++ rest

-- An allocation is at most one growth, at most one chunk taken where no growth was had, and then
-- its local event.
abbrev pub SpreadsAlloc : Space → ℕ → Step → Reply → List (Event × Answer) → Type 0
SpreadsAlloc space name step reply events =
    GrowsFirst space name step reply events ⊎ GoesOnAfter space name step reply events

-- An Unload is a local event that empties the loader, and then a closing.
abbrev pub SpreadsUnload : ℕ → Reply → List (Event × Answer) → Type 0
SpreadsUnload name Done events = events ≡ (acting (Unload name), replied Done) ∷ (closing name, accepted) ∷ []
SpreadsUnload name reply events = IsAlone (Unload name) reply events

-- A Purge is one event.
pub record SpreadsPurge (reply : Reply) (events : List (Event × Answer)) : Type 0 where
  pub nodes : ℕ
  pub done : reply ≡ Done
  pub events_are : events ≡ (purging, counted nodes) ∷ []

-- A request's events are a whole step with this reply.
abbrev pub Spreads : Step → Reply → List (Event × Answer) → Type 0
Spreads (New name kind) reply events = SpreadsNew name kind reply events
Spreads (Alloc name block words) reply events = SpreadsAlloc NonClass name (Alloc name block words) reply events
Spreads (Calloc name block words) reply events = SpreadsAlloc Class name (Calloc name block words) reply events
Spreads (Unload name) reply events = SpreadsUnload name reply events
Spreads Purge reply events = SpreadsPurge reply events
Spreads step reply events = IsAlone step reply events

abbrev pub IsWhole : SpreadStep → Type 0
IsWhole spread = Spreads spread.step spread.reply spread.events

-- An event of a step, and a moment's.
abbrev pub Part : Type 0
Part = Option SpreadStep × Event × Answer

abbrev pub part_of : Moment → Part
part_of moment = (moment.of, moment.event, moment.answer)

-- All events of a step.
abbrev pub spread_parts : SpreadStep → List Part
spread_parts spread = map (λ (one : Event × Answer). (Some spread, one.0, one.1)) spread.events

-- The events of a loader's name, taken by themselves.
abbrev pub parts_by : ℕ → List Moment → List Part
parts_by name moments = map part_of (filter (λ (moment : Moment). is_name name (loader_of_event moment.event)) moments)

-- They are whole steps, one after the other.
pub record AreWhole (parts : List Part) : Type 0 where
  pub steps : List SpreadStep
  pub whole : All IsWhole steps
  pub parts_are : parts ≡ flat_map spread_parts steps

-- An event of no loader: a Purge, which is a step by itself, or totals, which are no step's.
abbrev pub IsByItself : Event × Answer → Option ℕ → Option SpreadStep → Type 0
IsByItself event (Some name) of = ⊤
IsByItself event None (Some spread) = IsWhole spread × (spread.step ≡ Purge) × (spread.events ≡ event ∷ [])
IsByItself event None None = (space : Space) × (event.0 ≡ telling space)

-- How many words an allocation is for.
abbrev pub words_for : Step → ℕ
words_for (Alloc name block words) = block_words words
words_for (Calloc name block words) = block_words words
words_for _ = 0

abbrev pub words_asked : Option SpreadStep → ℕ
words_asked None = 0
words_asked (Some spread) = words_for spread.step

-- A growth is asked for the current chunk, as far as the words need.
pub record AsksGrowth (m : Machine) (space : Space) (name start total : ℕ) (enlarges : Bool) (n : ℕ) : Type 0 where
  pub loader : LoaderState
  pub chunk : Chunk
  pub has : HasLoader m name loader
  pub current_is : current (arena_of space loader) ≡ Some chunk
  pub start_is : start ≡ chunk.start
  pub total_is : total ≡ total_asked (arena_of space loader) n
  pub enlarges_is : enlarges ≡ may_enlarge loader.kind space (arena_of space loader) chunk

-- A chunk is asked for of the level that the arena wants, for the words.
pub record AsksChunk (m : Machine) (space : Space) (name p most words n : ℕ) : Type 0 where
  pub loader : LoaderState
  pub has : HasLoader m name loader
  pub wanted : p ≡ wanted_level loader.kind space (arena_of space loader) n
  pub most_is : most ≡ level_that_holds n
  pub words_are : words ≡ n

-- The pool is asked as the arena's rule says.
abbrev pub IsAskedFor : Machine → Event → ℕ → Type 0
IsAskedFor m (growing space name start total enlarges) n = AsksGrowth m space name start total enlarges n
IsAskedFor m (taking space name p most words) n = AsksChunk m space name p most words n
IsAskedFor m _ n = ⊤

-- The moments are a spread of steps: the events of each loader's name by themselves are whole
-- steps, one after the other; each other event is by itself; and the pool is asked as arenas do.
pub record IsSpread (moments : List Moment) : Type 0 where
  pub each : (name : ℕ) → AreWhole (parts_by name moments)
  pub others : All (λ (moment : Moment).
      IsByItself (moment.event, moment.answer) (loader_of_event moment.event) moment.of) moments
  pub asked : All (λ (moment : Moment). IsAskedFor moment.before moment.event (words_asked moment.of)) moments
