-- The facts that the tiles stand on, of a run's settings, its course and the totals of its end (this
-- project's choice).
use Rattle.std.specs.Prelude.{ℕ, ◌+◌, ◌-◌, ◌^◌, min, nat_lt, List, Option, Some, None, slice_get, unwrap_or}
use Rattle.std.specs.List.{sum_by}
use Rattle.ms_base.specs.declared.settings.Settings.{Settings}
use Rattle.ms_course.specs.declared.column.Column.{Column}
use Rattle.ms_course.specs.declared.reason.Reason.{Reason}
use Rattle.ms_course.specs.declared.reason.Reason.TheVariants as reason
use Rattle.ms_course.specs.declared.refusals.Refused.{Refused}
use Rattle.ms_course.specs.declared.stretch.Stretch.{Stretch}
use Rattle.ms_course.specs.Gathering.{CourseView, number_of}
use Rattle.ms_answers.specs.declared.totals.Totals.{Totals}
use Rattle.ms_report.specs.Usage.{limit_of}
use Rattle.ms_page.specs.declared.facts.Wants.{Wants}
use Rattle.ms_page.specs.declared.tiles.Facts.{Facts}
use Rattle.ms_page.specs.Cells.{empty_nodes}
use Rattle.ms_page.specs.Ends.{roots_in}
use Rattle.ms_page.specs.Peaks.{class_words, peaks_of}
use Rattle.ms_page.specs.Sums.{capped}

-- The nodes that may be reserved, and those that are at the end, both spaces' together.
abbrev pub node_limit_of : Settings → ℕ
node_limit_of settings = settings.nodes + settings.class_nodes

abbrev pub nodes_of : Totals → ℕ
nodes_of end = min (end.space.nodes + end.class_space.nodes) (2 ^ 32 - 1)

-- The lines that unloaded a loader.
abbrev pub unloads_of : List Column → ℕ
unloads_of columns = capped (sum_by (λ column. column.unloads) columns)

-- The fewest loaders of a stretch; 0 where it has no line.
abbrev pub fewest_in : Stretch → ℕ
fewest_in stretch = unwrap_or stretch.fewest 0

-- The lines that were refused for a reason.
abbrev pub lines_in : Option Refused → ℕ
lines_in None = 0
lines_in (Some refused) = refused.lines

abbrev pub lines_of : CourseView → Reason → ℕ
lines_of course reason = lines_in (slice_get course.refusals (number_of reason))

-- Those that were refused for want of something.
abbrev pub wants_of : CourseView → Wants
wants_of course = record {
  commit = lines_of course reason.CommitLimit;
  reserve = lines_of course reason.ReserveLimit;
  class = lines_of course reason.ClassReserveLimit;
  other = lines_of course reason.IdsUsedUp + lines_of course reason.OutOfMemory;
}

-- Those that were refused for what they ask, and all.
abbrev pub asks_of : CourseView → ℕ
asks_of course =
    lines_of course reason.LoaderExists
    + lines_of course reason.NoLoader
    + lines_of course reason.BlockExists
    + lines_of course reason.NoBlock
    + lines_of course reason.ZeroWords
    + lines_of course reason.TooLarge
    + lines_of course reason.OutOfRange

abbrev pub refused_of : CourseView → ℕ
refused_of course =
    lines_of course reason.CommitLimit
    + lines_of course reason.ReserveLimit
    + lines_of course reason.ClassReserveLimit
    + lines_of course reason.IdsUsedUp
    + lines_of course reason.OutOfMemory
    + asks_of course

-- The facts.
abbrev pub facts_of : Settings → CourseView → Totals → Facts
facts_of settings course end =
    let peaks = peaks_of course.columns.columns in
    let wants = wants_of course in
    record {
      limit = limit_of settings;
      committed = capped (end.space.committed + end.class_space.committed);
      committed_peak = peaks.both.committed;
      used = capped (end.space.used + end.class_space.used);
      nodes = nodes_of end;
      node_limit = node_limit_of settings;
      empty_nodes = empty_nodes (roots_in end.details);
      class_nodes = settings.class_nodes;
      class_limit = class_words settings;
      class_peak = peaks.class_space.committed;
      unloads = unloads_of course.columns.columns;
      two_halves = nat_lt course.schedule.turn course.schedule.half;
      low = fewest_in course.before;
      low_after = fewest_in course.after;
      commit_refused = wants.commit;
      reserve_refused = wants.reserve;
      class_refused = wants.class;
      other_wants = wants.other;
      refused = refused_of course;
    }
