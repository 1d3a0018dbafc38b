-- Laws about the course: what its definitions amount to, each the contract of a function of `laws`.
use Rattle.std.specs.Prelude.{◌≡◌, ◌≢◌, ℕ, ◌≤◌, ◌<◌, List, [], length}
use Rattle.std.specs.List.{All, Contains}
use Rattle.ms_base.specs.State.{Machine}
use Rattle.ms_base.specs.Good.{IsGood}
use Rattle.ms_course.specs.declared.moment.Moment.{Moment}
use Rattle.ms_course.specs.declared.column.Column.{Column}
use Rattle.ms_course.specs.Course.{ColumnsView, Shows, column_count, column_of, falling, most}
use Rattle.ms_course.specs.Standing.{AreNested, standing_of}

-- Each line falls into a column that there is.
abbrev pub LinesFallIntoColumns : Type 0
LinesFallIntoColumns = (lines position : ℕ) → position < lines → column_of lines position < column_count lines

-- Of two lines the later one falls into no earlier column.
abbrev pub LinesFallInOrder : Type 0
LinesFallInOrder = (lines first second : ℕ) → first ≤ second → column_of lines first ≤ column_of lines second

-- With at most 512 lines each has a column of its own.
abbrev pub FewLinesStandAlone : Type 0
FewLinesStandAlone = (lines position : ℕ) → position < lines → lines ≤ 512 → column_of lines position ≡ position

-- The most of an amount is what some moment has, and no moment has more.
pub record IsMost (amount : Moment → ℕ) (moments : List Moment) (number : ℕ) : Type 0 where
  pub reached : (moment : Moment) × Contains moments moment × (amount moment ≡ number)
  pub not_passed : All (λ moment. amount moment ≤ number) moments

abbrev pub MostIsReached : Type 0
MostIsReached = (amount : Moment → ℕ) (moments : List Moment) → moments ≢ [] → IsMost amount moments (most amount moments)

-- No peak is lost: some column has the most of all moments, and none has more.
pub record HasPeak (amount : Moment → ℕ) (lines : ℕ) (moments : List Moment) : Type 0 where
  pub column : ℕ
  pub within : column < column_count lines
  pub reached : most amount (falling lines column 0 moments) ≡ most amount moments
  pub not_passed : (other : ℕ) → most amount (falling lines other 0 moments) ≤ most amount moments

abbrev pub NoPeakIsLost : Type 0
NoPeakIsLost =
    (amount : Moment → ℕ) (lines : ℕ) (moments : List Moment) → moments ≢ [] → length moments ≤ lines
    → HasPeak amount lines moments

-- In a good machine live words are in use, used words are committed, committed ones reserved.
abbrev pub GoodMachinesNest : Type 0
GoodMachinesNest = (m : Machine) → IsGood m → AreNested (standing_of m)

-- So they are in each column, where they are at each moment.
abbrev pub ColumnsNest : Type 0
ColumnsNest =
    (view : ColumnsView) (moments : List Moment) → Shows view moments
    → All (λ (moment : Moment). AreNested moment.standing) moments
    → All (λ (column : Column). AreNested column.most) view.columns
