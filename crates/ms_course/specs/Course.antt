-- The course of a run in columns: which line falls into which, and what a column shows of its lines
-- (this project's choice).
use Rattle.std.specs.Prelude.{◌≡◌, ℕ, ◌+◌, ◌*◌, ◌/◌, ◌<◌, ◌==◌, min, max, Bool, true, false, cond}
use Rattle.std.specs.Prelude.{List, [], ◌∷◌, ◌++◌, Option, Some, None, length, slice_get, if◌then◌else◌}
use Rattle.std.specs.List.{count_by}
use Rattle.ms_base.specs.declared.step.Step.{Step}
use Rattle.ms_base.specs.declared.step.Step.TheVariants.{Unload as AsksUnload, Purge as AsksPurge}
use Rattle.ms_base.specs.declared.step.Reply.{Reply}
use Rattle.ms_base.specs.declared.step.Reply.TheVariants.{Refused}
use Rattle.ms_course.specs.declared.standing.Extent.{Extent}
use Rattle.ms_course.specs.declared.standing.Standing.{Standing}
use Rattle.ms_course.specs.declared.moment.Deed.{Deed}
use Rattle.ms_course.specs.declared.moment.Deed.TheVariants.{Unload, Purge, Refusal, Report, Other}
use Rattle.ms_course.specs.declared.moment.Asked.{Asked}
use Rattle.ms_course.specs.declared.moment.Asked.TheVariants.{Step as Asks, Sync, Report as AsksReport}
use Rattle.ms_course.specs.declared.moment.Moment.{Moment}
use Rattle.ms_course.specs.declared.column.Column.{Column}

-- What a step did, by its reply.
abbrev pub deed_of : Step → Reply → Deed
deed_of step (Refused refusal) = Refusal
deed_of (AsksUnload loader) reply = Unload
deed_of AsksPurge reply = Purge
deed_of step reply = Other

-- What a line did, by what it asked and how it was answered.
abbrev pub deed_asked : Asked → Reply → Deed
deed_asked (Asks step) reply = deed_of step reply
deed_asked Sync reply = Other
deed_asked AsksReport reply = Report

abbrev pub deed_in : Moment → Deed
deed_in moment = deed_asked moment.asked moment.reply

-- Which deeds a column counts, each by itself.
abbrev pub unloads : Deed → Bool
unloads Unload = true
unloads deed = false

abbrev pub purges : Deed → Bool
purges Purge = true
purges deed = false

abbrev pub is_refused : Deed → Bool
is_refused Refusal = true
is_refused deed = false

abbrev pub reports : Deed → Bool
reports Report = true
reports deed = false

-- How many moments are of a sort of deeds.
abbrev pub counted : (Deed → Bool) → List Moment → ℕ
counted sort moments = count_by (λ (moment : Moment). sort (deed_in moment)) moments

-- A run of so many lines has so many columns.
abbrev pub column_count : ℕ → ℕ
column_count lines = min lines 512

-- The line at a position, from 0 on, falls into this column.
abbrev pub column_of : ℕ → ℕ → ℕ
column_of lines position = position * column_count lines / lines

-- The moments that fall into a column, of moments from a position on.
abbrev pub falling : ℕ → ℕ → ℕ → List Moment → List Moment
falling lines column position [] = []
falling lines column position (moment ∷ moments) =
    (if column_of lines position == column then moment ∷ [] else []) ++ falling lines column (position + 1) moments

-- The most that moments have of an amount; 0 where there are none.
abbrev pub most : (Moment → ℕ) → List Moment → ℕ
most amount [] = 0
most amount (moment ∷ moments) = max (amount moment) (most amount moments)

-- The most of each amount, by itself.
abbrev pub most_words : (Moment → Extent) → List Moment → Extent
most_words extent moments = record {
  reserved = most (λ moment. (extent moment).reserved) moments;
  committed = most (λ moment. (extent moment).committed) moments;
  used = most (λ moment. (extent moment).used) moments;
  live = most (λ moment. (extent moment).live) moments;
}

abbrev pub most_of : List Moment → Standing
most_of moments = record {
  both = most_words (λ moment. moment.standing.both) moments;
  class_space = most_words (λ moment. moment.standing.class_space) moments;
  loaders = most (λ moment. moment.standing.loaders) moments;
}

-- The numbers of the first line and of the last; 0 where there is none.
abbrev pub first_line : List Moment → ℕ
first_line [] = 0
first_line (moment ∷ moments) = moment.line

abbrev pub last_line : List Moment → ℕ
last_line [] = 0
last_line (moment ∷ []) = moment.line
last_line (moment ∷ next ∷ moments) = last_line (next ∷ moments)

-- What the first line asked, and how it was answered.
abbrev pub first_asked : List Moment → Option Asked
first_asked [] = None
first_asked (moment ∷ moments) = Some moment.asked

abbrev pub first_reply : List Moment → Option Reply
first_reply [] = None
first_reply (moment ∷ moments) = Some moment.reply

-- What a column shows of its moments.
abbrev pub column_in : List Moment → Column
column_in moments = record {
  lines = length moments;
  first_line = first_line moments;
  last_line = last_line moments;
  most = most_of moments;
  unloads = counted unloads moments;
  purges = counted purges moments;
  refusals = counted is_refused moments;
  reports = counted reports moments;
  asked = first_asked moments;
  reply = first_reply moments;
}

-- A column with one moment more, part by part.
abbrev pub greater_extent : Extent → Extent → Extent
greater_extent most now = record {
  reserved = max most.reserved now.reserved;
  committed = max most.committed now.committed;
  used = max most.used now.used;
  live = max most.live now.live;
}

abbrev pub greater_standing : Standing → Standing → Standing
greater_standing most now = record {
  both = greater_extent most.both now.both;
  class_space = greater_extent most.class_space now.class_space;
  loaders = max most.loaders now.loaders;
}

abbrev pub with_deed : Column → Deed → Column
with_deed column deed = record column {
  unloads = column.unloads + cond (unloads deed) 1 0;
  purges = column.purges + cond (purges deed) 1 0;
  refusals = column.refusals + cond (is_refused deed) 1 0;
  reports = column.reports + cond (reports deed) 1 0;
}

abbrev pub with_moment : Column → Moment → Column
with_moment column moment = record (with_deed column (deed_in moment)) {
  lines = column.lines + 1;
  first_line = if column.lines == 0 then moment.line else column.first_line;
  last_line = moment.line;
  most = greater_standing column.most moment.standing;
  asked = if column.lines == 0 then Some moment.asked else column.asked;
  reply = if column.lines == 0 then Some moment.reply else column.reply;
}

-- What there is of columns: how many lines the run has, how many were answered, and the columns.
pub record ColumnsView : Type 0 where
  pub lines : ℕ
  pub answered : ℕ
  pub columns : List Column

-- Columns show the moments after the lines so far: each shows those that fall into it.
pub record Shows (view : ColumnsView) (moments : List Moment) : Type 0 where
  pub answered : view.answered ≡ min (length moments) view.lines
  pub count : length view.columns ≡ column_count view.lines
  pub each : (column : ℕ) → column < column_count view.lines
      → slice_get view.columns column ≡ Some (column_in (falling view.lines column 0 moments))
