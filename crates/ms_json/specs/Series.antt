-- The course of a run as arrays, a number for each column (this project's choice).
use Rattle.std.specs.Prelude.{ℕ, List, [], ◌∷◌, codes, map}
use Rattle.serde_json.specs.Data.{Data}
use Rattle.ms_course.specs.declared.column.Column.{Column}
use Rattle.ms_json.specs.Rows.{list_of, natural, object_of}
use Rattle.ms_json.specs.declared.series.Series.{Series}
use Rattle.ms_json.specs.declared.series.Series.TheVariants as series

-- The number of a column in a series: its first and its last line, the most of an amount after its
-- lines, or how many of its lines did what.
abbrev pub number_in : Series → Column → ℕ
number_in series.FirstLine column = column.first_line
number_in series.LastLine column = column.last_line
number_in series.Reserved column = column.most.both.reserved
number_in series.Committed column = column.most.both.committed
number_in series.Used column = column.most.both.used
number_in series.Live column = column.most.both.live
number_in series.ClassReserved column = column.most.class_space.reserved
number_in series.ClassCommitted column = column.most.class_space.committed
number_in series.ClassUsed column = column.most.class_space.used
number_in series.ClassLive column = column.most.class_space.live
number_in series.Loaders column = column.most.loaders
number_in series.Unloads column = column.unloads
number_in series.Purges column = column.purges
number_in series.Refused column = column.refusals
number_in series.Reports column = column.reports

abbrev pub numbers_in : Series → List Column → List Data
numbers_in which columns = map (λ column. natural (number_in which column)) columns

abbrev pub series_data : Series → List Column → Data
series_data which columns = list_of (numbers_in which columns)

-- All series.
abbrev pub course_data : List Column → Data
course_data columns = object_of (
    (codes "class committed", series_data series.ClassCommitted columns)
    ∷ (codes "class live", series_data series.ClassLive columns)
    ∷ (codes "class reserved", series_data series.ClassReserved columns)
    ∷ (codes "class used", series_data series.ClassUsed columns)
    ∷ (codes "committed", series_data series.Committed columns)
    ∷ (codes "first line", series_data series.FirstLine columns)
    ∷ (codes "last line", series_data series.LastLine columns)
    ∷ (codes "live", series_data series.Live columns)
    ∷ (codes "loaders", series_data series.Loaders columns)
    ∷ (codes "purges", series_data series.Purges columns)
    ∷ (codes "refused", series_data series.Refused columns)
    ∷ (codes "reports", series_data series.Reports columns)
    ∷ (codes "reserved", series_data series.Reserved columns)
    ∷ (codes "unloads", series_data series.Unloads columns)
    ∷ (codes "used", series_data series.Used columns)
    ∷ [])
