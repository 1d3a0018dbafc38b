-- How far a loader's step has come, and how the machine of the serial order then differs from the
-- one in which the events happen.
use Rattle.std.proofs.Common.{◌≡◌, ◌≤◌, ℕ, Bool, true, false, Option, Some, None, List, [], ◌∷◌, ◌++◌, map}
use Rattle.std.specs.Prelude.{⊤}
use Rattle.ms_base.specs.declared.kind.Kind.{Kind}
use Rattle.ms_base.specs.declared.kind.Space.{Space}
use Rattle.ms_base.specs.declared.step.Step.{Step}
use Rattle.ms_base.specs.declared.step.Step.TheVariants.{Unload}
use Rattle.ms_base.specs.declared.step.Reply.{Reply}
use Rattle.ms_base.specs.declared.step.Reply.TheVariants.{Ok as Done, At, Refused}
use Rattle.ms_base.specs.declared.refusal.Refusal.{Refusal}
use Rattle.ms_base.specs.declared.refusal.Refusal.TheVariants.{CommitLimit, ReserveLimit, OutOfMemory}
use Rattle.ms_base.specs.Level.{root_words}
use Rattle.ms_base.specs.Names.{AreNamed, named}
use Rattle.ms_base.specs.State.{LoaderState, Machine, empty_loader, chunks_held}
use Rattle.ms_base.specs.Good.{IsSoundLoader, IsGood}
use Rattle.ms_base.specs.Run.{Run}
use Rattle.ms_base.specs.Request.{alloc_in}
use Rattle.ms_base.specs.Run.Event.{Event, closing, acting, Answer, accepted, replied, Happens, AddsBlock, emptied}
use Rattle.ms_base.specs.Run.Event.{loader_of_event}
use Rattle.ms_base.specs.Run.Spread.{SpreadStep, Part, AreWhole, HasNoSpan, GoesOn, IsAskedFor, words_asked}
use Rattle.ms_base.specs.Run.Serial.{is_position, done_by, steps_of, replies_of}

-- How far a loader's step has come: none is begun, or one is whose growth was refused; its block is
-- owed, or a refusal; it is emptied, and is to be closed; or it is to be closed for want of memory.
pub data Stage : Type 0 where
  idle : Stage
  turned_down : SpreadStep → Stage
  owes_block : (space : Space) (block words start : ℕ) → Stage
  owes_refusal : (space : Space) (block words : ℕ) (refusal : Refusal) → Stage
  unloading : LoaderState → Stage
  retracting : Stage

-- A loader whose block is owed: in the serial order it has it.
pub record OwesBlock (space : Space) (block words start : ℕ) (serial real : Option LoaderState) : Type 0 where
  pub before : LoaderState
  pub after : LoaderState
  pub real_is : real ≡ Some before
  pub serial_is : serial ≡ Some after
  pub adds : AddsBlock space block words start before after
  pub some : 1 ≤ words
  pub fits : words ≤ root_words
  pub sound : IsSoundLoader after

-- One whose refusal is owed: it has no such block.
pub record OwesRefusal (block words : ℕ) (serial real : Option LoaderState) : Type 0 where
  pub loader : LoaderState
  pub real_is : real ≡ Some loader
  pub same : serial ≡ real
  pub unused : named loader.blocks block ≡ None
  pub some : 1 ≤ words
  pub fits : words ≤ root_words

-- What the serial order's machine has under the name, beside what the other has.
abbrev pub Shows : Stage → Option LoaderState → Option LoaderState → Type 0
Shows idle serial real = serial ≡ real
Shows (turned_down spread) serial real = serial ≡ real
Shows (owes_block space block words start) serial real = OwesBlock space block words start serial real
Shows (owes_refusal space block words refusal) serial real = OwesRefusal block words serial real
Shows (unloading loader) serial real = serial ≡ Some loader
Shows retracting serial real = serial ≡ None

-- A refusal that the pool gives to one who takes a chunk.
abbrev pub IsPassed : Refusal → Type 0
IsPassed (CommitLimit committed limit need) = ⊤
IsPassed (ReserveLimit nodes limit) = ⊤
IsPassed OutOfMemory = ⊤
IsPassed _ = ⊥

-- What is known of the loader since its step began.
abbrev pub Was : Stage → Option LoaderState → Type 0
Was (owes_refusal space block words refusal) real = IsPassed refusal
Was (unloading loader) real = (real ≡ Some (emptied loader)) × IsSoundLoader loader
Was retracting real = (kind : Kind) × (real ≡ Some (empty_loader kind))
Was _ real = ⊤

-- The events that are left of a step.
abbrev pub rest_of : SpreadStep → List (Event × Answer) → List Part
rest_of spread events = map (λ (one : Event × Answer). (Some spread, one.0, one.1)) events

-- One event is owed, and whether it is at the step's position; whole steps follow.
pub record IsOwed (step : Step) (reply : Reply) (event : Event) (answer : Answer) (position : Bool)
    (parts : List Part) : Type 0 where
  pub spread : SpreadStep
  pub more : List Part
  pub step_is : spread.step ≡ step
  pub reply_is : spread.reply ≡ reply
  pub position_is : is_position spread.events (event, answer) ≡ position
  pub parts_are : parts ≡ (Some spread, event, answer) ∷ more
  pub whole : AreWhole more

-- An allocation goes on after what it asked for in vain.
pub record IsOnItsWay (name : ℕ) (spread : SpreadStep) (parts : List Part) : Type 0 where
  pub space : Space
  pub block : ℕ
  pub words : ℕ
  pub asked : List (Event × Answer)
  pub rest : List (Event × Answer)
  pub more : List Part
  pub step_is : spread.step ≡ alloc_in space name block words
  pub no_span : HasNoSpan space name asked
  pub goes_on : GoesOn space name spread.step spread.reply rest
  pub events_are : spread.events ≡ asked ++ rest
  pub parts_are : parts ≡ rest_of spread rest ++ more
  pub whole : AreWhole more

-- The events of a name that are left.
abbrev pub Left : ℕ → Stage → List Part → Type 0
Left name idle parts = AreWhole parts
Left name (turned_down spread) parts = IsOnItsWay name spread parts
Left name (owes_block space block words start) parts =
    IsOwed (alloc_in space name block words) (At start) (acting (alloc_in space name block words))
    (replied (At start)) false parts
Left name (owes_refusal space block words refusal) parts =
    IsOwed (alloc_in space name block words) (Refused refusal) (acting (alloc_in space name block words))
    (replied (Refused refusal)) false parts
Left name (unloading loader) parts = IsOwed (Unload name) Done (closing name) accepted true parts
Left name retracting parts = (step : Step) × (reply : Reply) × IsOwed step reply (closing name) accepted false parts

-- The loaders of the serial order's machine, as far as one event rests on them.
pub record IsSeen (name : ℕ) (stage : Stage) (m : Machine) (seen : List (ℕ × LoaderState)) : Type 0 where
  pub rises : AreNamed seen
  pub mine : Shows stage (named seen name) (named m.loaders name)
  pub held : (space : Space) → chunks_held space seen ≡ chunks_held space m.loaders
  pub good : IsGood (record m { loaders = seen })

-- Such loaders before the event: a run from the machine that has them after it is one from the
-- machine that has these, with the step before it that counts as done.
pub record GoesBack (name : ℕ) (stage : Stage) (old new : Machine) (seen : List (ℕ × LoaderState))
    (done : List (Step × Reply)) : Type 0 where
  pub loaders : List (ℕ × LoaderState)
  pub rises : AreNamed loaders
  pub others : (other : ℕ) → (name ≡ other → ⊥) → named loaders other ≡ named seen other
  pub mine : Shows stage (named loaders name) (named old.loaders name)
  pub run : (later : List (Step × Reply)) (end : Machine)
      → Run (record new { loaders = seen }) (steps_of later) (replies_of later) end
      → Run (record old { loaders = loaders }) (steps_of (done ++ later)) (replies_of (done ++ later)) end

-- An event of a loader's: how far its step comes by it, and that loaders go back.
pub record GoesOnBy (name : ℕ) (stage : Stage) (old new : Machine) (part : Part) (rest : List Part) : Type 0 where
  pub next : Stage
  pub was : Was next (named new.loaders name)
  pub left : Left name next rest
  pub back : (seen : List (ℕ × LoaderState)) → IsSeen name next new seen
      → GoesBack name stage old new seen (done_by part.0 (part.1, part.2))

-- So for the first of the events that are left, as it happens.
abbrev pub FirstGoesOn : ℕ → Stage → Machine → Machine → List Part → Type 0
FirstGoesOn name stage old new [] = ⊤
FirstGoesOn name stage old new (part ∷ rest) =
    Happens old part.1 part.2 new → IsAskedFor old part.1 (words_asked part.0) → loader_of_event part.1 ≡ Some name
    → GoesOnBy name stage old new part rest
