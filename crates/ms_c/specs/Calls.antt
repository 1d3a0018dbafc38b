-- What the calls of a seat answer in numbers, and what each is: a call of the member that the seat
-- has.
use Rattle.std.specs.Prelude.{◌≡◌, ℕ, ◌≤◌, ◌<◌, ◌⊎◌, Bool, true, false, List, [], Option, Some, None}
use Rattle.ms_base.specs.declared.kind.Kind.{Kind}
use Rattle.ms_base.specs.declared.kind.Space.{Space}
use Rattle.ms_base.specs.declared.kind.Space.TheVariants.{NonClass, Class}
use Rattle.ms_base.specs.declared.settings.Settings.{Settings}
use Rattle.ms_base.specs.declared.span.Block.{Block}
use Rattle.ms_base.specs.declared.step.Reply.{Reply}
use Rattle.ms_base.specs.State.{limits_of}
use Rattle.ms_loaders.specs.declared.system.sums.LoaderTotals.{LoaderTotals}
use Rattle.ms_c.specs.declared.answer.Answer.{Answer}
use Rattle.ms_c.specs.declared.totals.LoaderSums.{LoaderSums}
use Rattle.ms_c.specs.declared.options.Options.{Options}
use Rattle.ms_loaders.specs.declared.system.committing.GranuleRun.{GranuleRun}
use Rattle.ms_c.specs.Answers.{numbers, bad_kind, no_seat, not_held, told_by}
use Rattle.ms_c.specs.Kinds.{kind_number}
use Rattle.ms_c.specs.Sums.{loader_told}
use Rattle.ms_c.specs.Settings.{AreSettings, AreFit}
use Rattle.ms_c.specs.Seating.{Seated}
use Rattle.ms_member.specs.Member.{MemberState, IsFirst, Splits, AnswersNew, TellsPool, Purges}
use Rattle.ms_member.specs.Member.{FindsRun}
use Rattle.ms_member.specs.Hosted.{IsOwed}
use Rattle.ms_member.specs.Taking.{AnswersNewArenas, AreTheirSums, KnowsNoBlocks}

-- The member is answered so.
pub record Called (is : MemberState → Option Reply → MemberState → Type 0) (before : MemberState) (answer : Answer)
    (after : Seated) : Type 0 where
  pub reply : Option Reply
  pub now : MemberState
  pub after_is : after ≡ Some now
  pub answer_is : answer ≡ told_by reply
  pub so : is before reply now

-- A call of a seat is one of its member; with no seat it changes nothing and says so.
abbrev pub Calls : (MemberState → Option Reply → MemberState → Type 0) → Seated → Answer → Seated → Type 0
Calls is None answer after = (answer ≡ no_seat) × (after ≡ None)
Calls is (Some before) answer after = Called is before answer after

-- A new loader of the kind of that number; or there is no such kind, and nothing changes.
pub record MakesKind (before : Seated) (number : ℕ) (answer : Answer) (after : Seated) : Type 0 where
  pub kind : Kind
  pub kind_is : kind_number kind ≡ number
  pub calls : Calls (AnswersNew kind) before answer after

pub record LacksKind (before : Seated) (number : ℕ) (answer : Answer) (after : Seated) : Type 0 where
  pub unknown : 3 < number
  pub answer_is : answer ≡ bad_kind
  pub after_is : after ≡ before

abbrev pub MakesLoaderAt : Seated → ℕ → Answer → Seated → Type 0
MakesLoaderAt before number answer after =
    MakesKind before number answer after ⊎ LacksKind before number answer after

-- So it is of a loader without names, which knows its blocks or is bare.
pub record MakesArenasOf (is_bare : Bool) (before : Seated) (number : ℕ) (answer : Answer) (after : Seated) : Type 0
  where
    pub kind : Kind
    pub kind_is : kind_number kind ≡ number
    pub calls : Calls (AnswersNewArenas is_bare kind) before answer after

abbrev pub MakesArenasAt : Bool → Seated → ℕ → Answer → Seated → Type 0
MakesArenasAt is_bare before number answer after =
    MakesArenasOf is_bare before number answer after ⊎ LacksKind before number answer after

-- The space that C means.
abbrev pub space_of : Bool → Space
space_of true = Class
space_of false = NonClass

-- A pool was made under the settings of the options, and its first seat, which has the others to
-- spare.
pub record IsShared (options : Options) (seats : ℕ) (before after : Seated) : Type 0 where
  pub settings : Settings
  pub named : AreSettings options settings
  pub none : before ≡ None
  pub now : MemberState
  pub after_is : after ≡ Some now
  pub first : IsFirst (limits_of settings) seats now

-- The options are fit and so many seats can be made; and they can't.
abbrev pub CanShare : Options → ℕ → Type 0
CanShare options seats = AreFit options × (1 ≤ seats) × (seats ≤ 65536)

abbrev pub CannotShare : Options → ℕ → Type 0
CannotShare options seats = CanShare options seats → ⊥

-- A seat to spare of one became another's.
pub record SplitsOff (old new before after : Seated) : Type 0 where
  pub was : MemberState
  pub now : MemberState
  pub other : MemberState
  pub old_is : old ≡ Some was
  pub new_is : new ≡ Some now
  pub none : before ≡ None
  pub after_is : after ≡ Some other
  pub split : Splits was now other

-- None is to spare.
pub record HasNoSpare (seat : Seated) : Type 0 where
  pub member : MemberState
  pub is : seat ≡ Some member
  pub none : member.spare ≡ []

-- The seat and what becomes of it.
pub record Becomes (is : MemberState → MemberState → Type 0) (old new : Seated) : Type 0 where
  pub was : MemberState
  pub now : MemberState
  pub old_is : old ≡ Some was
  pub new_is : new ≡ Some now
  pub so : is was now

-- Of so many granules whether each is committed in the pool that the seat has.
pub record TellsGranules (seat : Seated) (first count : ℕ) (bits : List Bool) : Type 0 where
  pub member : MemberState
  pub is : seat ≡ Some member
  pub told : TellsPool member first count bits

-- The next run of the granules that went, in the pool that the seat has.
pub record FindsWent (seat : Seated) (was : List Bool) (from : ℕ) (run : GranuleRun) : Type 0 where
  pub member : MemberState
  pub is : seat ≡ Some member
  pub found : FindsRun member was from run

-- The seat doesn't have the pool.
pub record IsAlone (seat : Seated) : Type 0 where
  pub member : MemberState
  pub is : seat ≡ Some member
  pub none : member.held ≡ None

-- The nodes without a chunk are given back, and counted.
pub record GivesNodesBack (before : MemberState) (answer : Answer) (after : Seated) : Type 0 where
  pub now : MemberState
  pub after_is : after ≡ Some now
  pub answer_is : answer ≡ numbers 0 answer.value 0 0
  pub purged : Purges before answer.value now

-- The seat doesn't have the pool, and nothing changes.
pub record IsNotHeld (before : MemberState) (answer : Answer) (after : Seated) : Type 0 where
  pub answer_is : answer ≡ not_held
  pub after_is : after ≡ Some before
  pub none : before.held ≡ None

abbrev pub PurgesPool : Seated → Answer → Seated → Type 0
PurgesPool None answer after = (answer ≡ no_seat) × (after ≡ None)
PurgesPool (Some before) answer after = GivesNodesBack before answer after ⊎ IsNotHeld before answer after

-- What is told are the sums of the seat's loader; and there is no loader.
pub record TellsIts (seat : Seated) (sums : LoaderSums) : Type 0 where
  pub member : MemberState
  pub totals : LoaderTotals
  pub is : seat ≡ Some member
  pub are : AreTheirSums member.arenas member totals
  pub told : sums ≡ loader_told totals

pub record HasNone (seat : Seated) : Type 0 where
  pub member : MemberState
  pub is : seat ≡ Some member
  pub none : KnowsNoBlocks member

-- What is owed where a block of a seat's bare loader is given back: it may be one of its live ones.
abbrev pub IsOwedBy : Seated → Space → Block → Type 0
IsOwedBy None space block = Unit {0}
IsOwedBy (Some member) space block = IsOwed space block member.arenas
