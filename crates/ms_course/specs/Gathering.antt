-- What a course gathers beside its columns: refused lines by their reasons, the fewest loaders, and
-- since when loaders are there (this project's choice).
use Rattle.std.specs.Prelude.{◌≡◌, ℕ, ◌+◌, ◌/◌, ◌<◌, ◌≤◌, ◌==◌, ◌&&◌, nat_eq, nat_le, nat_lt, min, Bool, true, false, if◌then◌else◌}
use Rattle.std.specs.Prelude.{List, [], ◌∷◌, ◌++◌, Option, Some, None, length, slice_get, unwrap_or}
use Rattle.std.specs.List.{All, count_by, filter}
use Rattle.std.specs.Map.{lookup}
use Rattle.ms_base.specs.declared.step.Step.{Step}
use Rattle.ms_base.specs.declared.step.Step.TheVariants as step
use Rattle.ms_base.specs.declared.step.Reply.{Reply}
use Rattle.ms_base.specs.declared.step.Reply.TheVariants.{Refused as IsRefused}
use Rattle.ms_base.specs.declared.refusal.Refusal.{Refusal}
use Rattle.ms_base.specs.declared.refusal.Refusal.TheVariants as refusal
use Rattle.ms_course.specs.declared.moment.Asked.{Asked}
use Rattle.ms_course.specs.declared.moment.Asked.TheVariants.{Step as Asks}
use Rattle.ms_course.specs.declared.moment.Moment.{Moment}
use Rattle.ms_course.specs.declared.reason.Reason.{Reason}
use Rattle.ms_course.specs.declared.reason.Reason.TheVariants as reason
use Rattle.ms_course.specs.declared.refusals.Refused.{Refused}
use Rattle.ms_course.specs.declared.stretch.Stretch.{Stretch}
use Rattle.ms_course.specs.declared.births.Birth.{Birth}
use Rattle.ms_course.specs.declared.births.Change.{Change}
use Rattle.ms_course.specs.declared.births.Change.TheVariants.{Made, Unloaded, Nothing}
use Rattle.ms_course.specs.declared.schedule.Schedule.{Schedule}
use Rattle.ms_course.specs.declared.course.LoaderThen.{LoaderThen}
use Rattle.ms_course.specs.Course.{ColumnsView, Shows, first_line}

-- A run turns at its first unloading, and is half-way in the middle from there to its end.
abbrev pub schedule_of : ℕ → Option ℕ → Schedule
schedule_of lines first_unload = record {
  lines = lines;
  turn = unwrap_or first_unload 0;
  half = (unwrap_or first_unload 0 + lines) / 2;
}

-- A line asks for a block of the class space.
abbrev pub is_calloc : Asked → Bool
is_calloc (Asks (step.Calloc loader block words)) = true
is_calloc asked = false

-- The reason of a refusal, where the line asks for the class space or not.
abbrev pub cause_of : Bool → Refusal → Option Reason
cause_of of_class refusal.LoaderExists = Some reason.LoaderExists
cause_of of_class refusal.IdsUsedUp = Some reason.IdsUsedUp
cause_of of_class refusal.NoLoader = Some reason.NoLoader
cause_of of_class refusal.BlockExists = Some reason.BlockExists
cause_of of_class refusal.ZeroWords = Some reason.ZeroWords
cause_of of_class refusal.TooLarge = Some reason.TooLarge
cause_of of_class refusal.OutOfMemory = Some reason.OutOfMemory
cause_of true (refusal.ReserveLimit nodes limit) = Some reason.ClassReserveLimit
cause_of false (refusal.ReserveLimit nodes limit) = Some reason.ReserveLimit
cause_of of_class (refusal.CommitLimit committed limit need) = Some reason.CommitLimit
cause_of of_class refusal.NoBlock = Some reason.NoBlock
cause_of of_class (refusal.OutOfRange words) = Some reason.OutOfRange
cause_of of_class other = None

-- Why a line was refused, by what it asked and its reply.
abbrev pub reason_of : Asked → Reply → Option Reason
reason_of asked (IsRefused refusal) = cause_of (is_calloc asked) refusal
reason_of asked reply = None

-- The reasons by number.
abbrev pub number_of : Reason → ℕ
number_of reason.LoaderExists = 0
number_of reason.IdsUsedUp = 1
number_of reason.NoLoader = 2
number_of reason.BlockExists = 3
number_of reason.ZeroWords = 4
number_of reason.TooLarge = 5
number_of reason.OutOfMemory = 6
number_of reason.ReserveLimit = 7
number_of reason.ClassReserveLimit = 8
number_of reason.CommitLimit = 9
number_of reason.NoBlock = 10
number_of reason.OutOfRange = 11

-- A line was refused for the reason of a number.
abbrev pub is_number : ℕ → Option Reason → Bool
is_number number (Some why) = number_of why == number
is_number number None = false

abbrev pub is_refused_for : ℕ → Moment → Bool
is_refused_for number moment = is_number number (reason_of moment.asked moment.reply)

-- How many lines were, and the first of them.
abbrev pub refused_for : ℕ → List Moment → Refused
refused_for number moments = record {
  lines = count_by (is_refused_for number) moments;
  first_line = first_line (filter (is_refused_for number) moments);
}

-- With one line more.
abbrev pub refused_with : Refused → ℕ → Refused
refused_with refused line = record {
  lines = refused.lines + 1;
  first_line = if refused.lines == 0 then line else refused.first_line;
}

-- A list by number counts the refused lines of these moments.
pub record Counts (refusals : List Refused) (moments : List Moment) : Type 0 where
  pub count : length refusals ≡ 12
  pub each : (number : ℕ) → number < 12 → slice_get refusals number ≡ Some (refused_for number moments)

-- A position lies from a first one on, before an end.
abbrev pub lies : ℕ → ℕ → ℕ → Bool
lies first end position = nat_le first position && nat_lt position end

-- The moments at such positions.
abbrev pub between : ℕ → ℕ → ℕ → List Moment → List Moment
between first end position [] = []
between first end position (moment ∷ moments) =
    (if lies first end position then moment ∷ [] else []) ++ between first end (position + 1) moments

-- The fewest loaders after one of them.
abbrev pub fewer : Option ℕ → ℕ → ℕ
fewer None loaders = loaders
fewer (Some fewest) loaders = min fewest loaders

abbrev pub fewest : List Moment → Option ℕ
fewest [] = None
fewest (moment ∷ moments) = Some (fewer (fewest moments) moment.standing.loaders)

-- What a stretch of moments has.
abbrev pub stretch_of : List Moment → Stretch
stretch_of moments = record { first_line = first_line moments; fewest = fewest moments }

-- With one moment more.
abbrev pub earlier : Option ℕ → ℕ → ℕ → ℕ
earlier None line first = line
earlier (Some fewest) line first = first

abbrev pub stretch_with : Stretch → Moment → Stretch
stretch_with stretch moment = record {
  first_line = earlier stretch.fewest moment.line stretch.first_line;
  fewest = Some (fewer stretch.fewest moment.standing.loaders);
}

-- With one more where it lies within.
abbrev pub stretch_next : Bool → Stretch → Moment → Stretch
stretch_next within stretch moment = if within then stretch_with stretch moment else stretch

-- What a line did to the loaders that there are.
abbrev pub change_of : Asked → Reply → Change
change_of asked (IsRefused refusal) = Nothing
change_of (Asks (step.New loader kind)) reply = Made loader
change_of (Asks (step.Unload loader)) reply = Unloaded loader
change_of asked reply = Nothing

-- Since when a loader is there after a change: since it if it made it, no more if it unloaded it.
abbrev pub birth_changed : ℕ → Birth → Change → Option Birth → Option Birth
birth_changed name birth (Made loader) before = if loader == name then Some birth else before
birth_changed name birth (Unloaded loader) before = if loader == name then None else before
birth_changed name birth Nothing before = before

abbrev pub birth_with : ℕ → ℕ → Moment → Option Birth → Option Birth
birth_with name position moment before =
    birth_changed name (record { position = position; line = moment.line }) (change_of moment.asked moment.reply) before

abbrev pub birth_after : ℕ → ℕ → List Moment → Option Birth → Option Birth
birth_after name position [] before = before
birth_after name position (moment ∷ moments) before =
    birth_after name (position + 1) moments (birth_with name position moment before)

abbrev pub birth_of : ℕ → List Moment → Option Birth
birth_of name moments = birth_after name 0 moments None

-- The birth in a list by name.
abbrev pub birth_in : List (ℕ × Birth) → ℕ → Option Birth
birth_in births name = lookup (nat_eq name) births

-- What there is of a course.
pub record CourseView : Type 0 where
  pub schedule : Schedule
  pub columns : ColumnsView
  pub refusals : List Refused
  pub before : Stretch
  pub after : Stretch
  pub births : List (ℕ × Birth)
  pub halfway : List LoaderThen

-- A course has gathered the moments after the lines so far; its columns are of all lines.
pub record Gathers (view : CourseView) (moments : List Moment) : Type 0 where
  pub lines : view.columns.lines ≡ view.schedule.lines
  pub columns : Shows view.columns moments
  pub refusals : Counts view.refusals moments
  pub before : view.before ≡ stretch_of (between view.schedule.turn view.schedule.half 0 moments)
  pub after : view.after ≡ stretch_of (between view.schedule.half view.schedule.lines 0 moments)
  pub births : (name : ℕ) → birth_in view.births name ≡ birth_of name moments

-- No more than so many lines are counted for each reason.
abbrev pub IsCounted : ℕ → List Refused → Type 0
IsCounted most refusals = All (λ (refused : Refused). refused.lines ≤ most) refusals

pub record IsGathering (schedule : Schedule) (columns : ColumnsView) (refusals : List Refused) : Type 0 where
  pub lines : columns.lines ≡ schedule.lines
  pub within : columns.answered ≤ columns.lines
  pub few : IsCounted columns.answered refusals
