-- What the course of a run has of the lines that were seen of it (this project's choice).
use Rattle.std.specs.Prelude.{◌≡◌, ◌≤◌, ℕ, Bool, true, false, List, [], Option, Some, None, if◌then◌else◌, length, map}
use Rattle.std.specs.Prelude.{nat_lt, slice_get, suc, zero}
use Rattle.std.specs.List.{position_or_len}
use Rattle.ms_base.specs.declared.step.Step.TheVariants.{Unload as AsksUnload}
use Rattle.ms_base.specs.declared.settings.Settings.{Settings}
use Rattle.ms_base.specs.State.{Machine, limits_of}
use Rattle.ms_base.specs.Totals.{sums_of, LoaderRow as RowSums}
use Rattle.ms_course.specs.Gathering.{CourseView, Gathers, schedule_of}
use Rattle.ms_course.specs.declared.course.LoaderThen.{LoaderThen}
use Rattle.ms_answers.specs.declared.replies.Answer.{Answer}
use Rattle.ms_answers.specs.Sums.{row_in}
use Rattle.ms_answers.specs.declared.totals.LoaderRow.{LoaderRow}
use Rattle.ms_answers.specs.declared.totals.Totals.{Totals}
use Rattle.ms_run.specs.Observing.{IsObserved}
use Rattle.ms_run.specs.Seeing.{Sight}
use Rattle.ms_trace.specs.declared.trace.Command.{Command}
use Rattle.ms_trace.specs.declared.trace.Command.TheVariants.{Step as Asks}
use Rattle.ms_trace.specs.declared.trace.Line.{Line}
use Rattle.ms_trace.specs.declared.trace.Trace.{Trace}
use Rattle.ms_session.specs.Charting.{moments_of}

-- The loaders of a metaspace as a course keeps them, in rising order of name.
abbrev pub loader_then : RowSums → LoaderThen
loader_then row = record { name = row.name; kind = row.kind; live = row.live }

abbrev pub loaders_then : Machine → List LoaderThen
loaders_then m = map loader_then (sums_of m).rows

abbrev pub then_in : LoaderRow → LoaderThen
then_in row = loader_then (row_in row)

-- Those after so many lines that were seen; none where there are not so many, or where it is none.
abbrev pub loaders_if : Option Sight → List LoaderThen
loaders_if None = []
loaders_if (Some sight) = loaders_then sight.state

abbrev pub loaders_after : ℕ → List Sight → List LoaderThen
loaders_after zero sights = []
loaders_after (suc before) sights = loaders_if (slice_get sights before)

-- While these lines were seen, a course that had gathered none came to gather them, of no more lines
-- than its schedule has, and to keep the loaders half-way.
pub record Watches (first now : CourseView) (sights : List Sight) : Type 0 where
  pub schedule : now.schedule ≡ first.schedule
  pub gathered : Gathers first [] → length sights ≤ first.schedule.lines → Gathers now (moments_of sights)
  pub halfway : Gathers first [] → length sights ≤ first.schedule.lines → first.halfway ≡ []
      → now.halfway ≡ loaders_after first.schedule.half sights

-- The position of the first line that asks for an unloading.
abbrev pub asks_unload : Command → Bool
asks_unload (Asks (AsksUnload loader)) = true
asks_unload command = false

abbrev pub lines_before_unload : List Line → ℕ
lines_before_unload lines = position_or_len (λ (line : Line). asks_unload line.command) lines

abbrev pub first_unload : List Line → Option ℕ
first_unload lines =
    if nat_lt (lines_before_unload lines) (length lines) then Some (lines_before_unload lines) else None

-- A course has gathered each state that one worker reaches, who runs through all commands of a trace in
-- their order from the empty state, and the totals are those of the last. It turns where the first line
-- asks for an unloading, and keeps the loaders half-way from there to the end.
pub record IsWatched (settings : Settings) (trace : Trace) (course : CourseView) (last : Totals) : Type 0 where
  pub answers : List Answer
  pub sights : List Sight
  pub observed : IsObserved (limits_of settings) trace.lines answers sights last
  pub gathered : Gathers course (moments_of sights)
  pub schedule : course.schedule ≡ schedule_of (length trace.lines) (first_unload trace.lines)
  pub halfway : course.halfway ≡ loaders_after course.schedule.half sights
