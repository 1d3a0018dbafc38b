-- That columns can count on (this project's choice).
use Rattle.std.specs.Prelude.{◌≡◌, ℕ, ◌≤◌, List, length}
use Rattle.std.specs.List.{All}
use Rattle.ms_course.specs.Course.{column_count}
use Rattle.ms_course.specs.declared.column.Column.{Column}

-- A column counts no more than so many lines of each sort.
pub record AreFew (most : ℕ) (column : Column) : Type 0 where
  pub lines : column.lines ≤ most
  pub unloads : column.unloads ≤ most
  pub purges : column.purges ≤ most
  pub refusals : column.refusals ≤ most
  pub reports : column.reports ≤ most

-- Columns of a run of so many lines, of which so many were answered.
pub record IsFilling (lines answered : ℕ) (columns : List Column) : Type 0 where
  pub within : answered ≤ lines
  pub count : length columns ≡ column_count lines
  pub few : All (AreFew answered) columns
