-- What a call answers in numbers, and that a call is a step of the machine.
use Rattle.std.specs.Prelude.{◌≡◌, ℕ, ◌<◌, ◌+◌, ◌⊎◌, length, Option, Some, None}
use Rattle.ms_base.specs.declared.step.Step.{Step}
use Rattle.ms_base.specs.declared.step.Reply.{Reply}
use Rattle.ms_base.specs.declared.step.Reply.TheVariants.{Ok as Done, At, Value, Refused}
use Rattle.ms_base.specs.declared.refusal.Refusal.{Refusal}
use Rattle.ms_base.specs.declared.refusal.Refusal.TheVariants.{ZeroWords, TooLarge, CommitLimit, ReserveLimit, NotLive}
use Rattle.ms_base.specs.declared.refusal.Refusal.TheVariants.{OutOfRange, OutOfMemory, NoLoader, LoaderExists, NoBlock}
use Rattle.ms_base.specs.declared.refusal.Refusal.TheVariants.{BlockExists, IdsUsedUp, Unsettled, NoRoom}
use Rattle.ms_base.specs.declared.step.Step.TheVariants.{New, Purge}
use Rattle.ms_base.specs.declared.kind.Kind.{Kind}
use Rattle.ms_base.specs.State.{Machine, empty_machine, limits_of}
use Rattle.ms_base.specs.declared.settings.Settings.{Settings}
use Rattle.ms_base.specs.Good.{IsGood}
use Rattle.ms_base.specs.Transition.{Transition}
use Rattle.ms_c.specs.declared.answer.Answer.{Answer}
use Rattle.ms_c.specs.declared.options.Options.{Options}
use Rattle.ms_c.specs.Holding.{Held}
use Rattle.ms_c.specs.Kinds.{kind_number}
use Rattle.ms_c.specs.Settings.{AreSettings}

abbrev pub numbers : ℕ → ℕ → ℕ → ℕ → Answer
numbers status value limit need = record { status = status; value = value; limit = limit; need = need }

-- The numbers of a refusal; each has a status of its own.
abbrev pub refused_as : Refusal → Answer
refused_as OutOfMemory = numbers 1 0 0 0
refused_as ZeroWords = numbers 2 0 0 0
refused_as TooLarge = numbers 3 0 0 0
refused_as (CommitLimit committed limit need) = numbers 4 committed limit need
refused_as (ReserveLimit nodes limit) = numbers 5 nodes limit 0
refused_as NotLive = numbers 6 0 0 0
refused_as (OutOfRange words) = numbers 7 words 0 0
refused_as NoLoader = numbers 8 0 0 0
refused_as LoaderExists = numbers 9 0 0 0
refused_as NoBlock = numbers 10 0 0 0
refused_as BlockExists = numbers 11 0 0 0
refused_as IdsUsedUp = numbers 12 0 0 0
refused_as (Unsettled opened gathered) = numbers 13 opened gathered 0
refused_as (NoRoom level) = numbers 14 level 0 0

-- The numbers of a reply: a start or a word in `value`.
abbrev pub told : Reply → Answer
told Done = numbers 0 0 0 0
told (At start) = numbers 0 start 0 0
told (Value value) = numbers 0 value 0 0
told (Refused refusal) = refused_as refusal

-- There is no system.
abbrev pub no_system : Answer
no_system = numbers 20 0 0 0

-- The handle's system takes the step and is answered so.
pub record Stepped (before : Machine) (step : Step) (answer : Answer) (after : Held) : Type 0 where
  pub reply : Reply
  pub now : Machine
  pub after_is : after ≡ Some now
  pub answer_is : answer ≡ told reply
  pub stepped : Transition before step reply now
  pub good : IsGood now

-- A call is a step of the handle's system; with no system it changes nothing and says so.
abbrev pub Steps : Held → Step → Answer → Held → Type 0
Steps None step answer after = (answer ≡ no_system) × (after ≡ None)
Steps (Some before) step answer after = Stepped before step answer after

-- The nodes in which no chunk is held are given back, and counted.
pub record GivesBack (before : Machine) (answer : Answer) (after : Held) : Type 0 where
  pub now : Machine
  pub after_is : after ≡ Some now
  pub stepped : Transition before Purge Done now
  pub answer_is : answer ≡ numbers 0 answer.value 0 0
  pub gone : answer.value + length now.slots ≡ length before.slots

abbrev pub Purges : Held → Answer → Held → Type 0
Purges None answer after = (answer ≡ no_system) × (after ≡ None)
Purges (Some before) answer after = GivesBack before answer after

-- No kind of loader has the number.
abbrev pub bad_kind : Answer
bad_kind = numbers 23 0 0 0

-- A new loader of the kind of that number is a step of the machine.
pub record Makes (before : Held) (name number : ℕ) (answer : Answer) (after : Held) : Type 0 where
  pub kind : Kind
  pub kind_is : kind_number kind ≡ number
  pub steps : Steps before (New name kind) answer after

-- There is no such kind, and nothing changes.
pub record LacksKind (before : Held) (number : ℕ) (answer : Answer) (after : Held) : Type 0 where
  pub unknown : 3 < number
  pub answer_is : answer ≡ bad_kind
  pub after_is : after ≡ before

abbrev pub MakesLoader : Held → ℕ → ℕ → Answer → Held → Type 0
MakesLoader before name number answer after =
    Makes before name number answer after ⊎ LacksKind before number answer after

-- A system was made where there was none, with nothing in it, under the settings of the options.
pub record IsMade (options : Options) (before after : Held) : Type 0 where
  pub settings : Settings
  pub named : AreSettings options settings
  pub none : before ≡ None
  pub made : after ≡ Some (empty_machine (limits_of settings))

-- There is no seat; and the seat doesn't have the pool.
abbrev pub no_seat : Answer
no_seat = numbers 26 0 0 0

abbrev pub not_held : Answer
not_held = numbers 25 0 0 0

-- The numbers of a member's reply, and where the pool was wanting.
abbrev pub told_by : Option Reply → Answer
told_by None = not_held
told_by (Some reply) = told reply
