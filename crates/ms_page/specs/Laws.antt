-- Laws about the page's values: what its definitions amount to, each the contract of a function of
-- `laws`.
use Rattle.std.specs.Prelude.{◌≡◌, ◌≢◌, ◌↔◌, ℕ, ◌+◌, ◌*◌, ◌^◌, ◌≤◌, ◌<◌, List, [], IsTrue, length, map}
use Rattle.std.specs.List.{All, Contains}
use Rattle.std.specs.List.Sorted.{IsPermutation, IsSortedBy}
use Rattle.ms_course.specs.Gathering.{CourseView}
use Rattle.ms_course.specs.declared.column.Column.{Column}
use Rattle.ms_course.specs.declared.standing.Extent.{Extent}
use Rattle.ms_course.specs.Standing.{IsNested}
use Rattle.ms_answers.specs.declared.details.LoaderDetails.{LoaderDetails}
use Rattle.ms_pool.specs.declared.mapping.RootMap.{RootMap}
use Rattle.ms_page.specs.declared.cells.CellCounts.{CellCounts}
use Rattle.ms_page.specs.declared.holding.Holding.{Holding}
use Rattle.ms_page.specs.declared.tiles.Facts.{Facts}
use Rattle.ms_page.specs.declared.tiles.Mark.TheVariants.{Problem}
use Rattle.ms_page.specs.Axis.{steps}
use Rattle.ms_page.specs.Cells.{cell_counts}
use Rattle.ms_page.specs.Escape.{escaped}
use Rattle.ms_page.specs.Holdings.{holding_of}
use Rattle.ms_page.specs.Largest.{comes_before, ranked_of}
use Rattle.ms_page.specs.Peaks.{most}
use Rattle.ms_page.specs.Scale.{scaled}
use Rattle.ms_page.specs.Tiles.{class_case, class_mark, committed_case, committed_mark, loader_case, loader_mark}
use Rattle.ms_page.specs.Tiles.{refused_case, refused_mark, reserved_case, reserved_mark, used_case, used_mark, wants_something}

-- Something is never drawn as nothing.
abbrev pub SomethingIsDrawn : Type 0
SomethingIsDrawn = (number whole length : ℕ) → 0 < number → 0 < whole → 0 < length → 0 < scaled number whole length

-- No bar is longer than its track.
abbrev pub BarsStayInTheirTrack : Type 0
BarsStayInTheirTrack = (number whole length : ℕ) → scaled number whole length ≤ length

-- What is more is drawn no shorter.
abbrev pub MoreIsNoShorter : Type 0
MoreIsNoShorter =
    (less more whole length : ℕ) → less ≤ more → scaled less whole length ≤ scaled more whole length

-- Areas of amounts that nest do so too.
abbrev pub AreasNest : Type 0
AreasNest =
    (extent : Extent) (top height : ℕ) → IsNested extent
    → (scaled extent.live top height ≤ scaled extent.used top height)
    × (scaled extent.used top height ≤ scaled extent.committed top height)
    × (scaled extent.committed top height ≤ scaled extent.reserved top height)

-- An axis has five steps at most.
abbrev pub StepsAreFew : Type 0
StepsAreFew = (number step : ℕ) → 0 < step → number ≤ 5 * step → steps number step ≤ 5

-- A tile says that there is a problem exactly where a line was refused for want of what it shows.
pub record TellsProblems (facts : Facts) : Type 0 where
  pub committed : (committed_mark (committed_case facts) ≡ Problem) ↔ (0 < facts.commit_refused)
  pub used : used_mark (used_case facts) ≢ Problem
  pub reserved : (reserved_mark (reserved_case facts) ≡ Problem) ↔ (0 < facts.reserve_refused)
  pub classes : (class_mark (class_case facts) ≡ Problem) ↔ (0 < facts.class_refused)
  pub loaders : loader_mark (loader_case facts) ≢ Problem
  pub refused : (refused_mark (refused_case facts) ≡ Problem) ↔ IsTrue (wants_something facts)

abbrev pub ProblemsAreRefusals : Type 0
ProblemsAreRefusals = (facts : Facts) → TellsProblems facts

-- The peak of an amount is what some column has, and no column has more.
pub record IsPeak (amount : Column → ℕ) (columns : List Column) (number : ℕ) : Type 0 where
  pub reached : (column : Column) × Contains columns column × (amount column ≡ number)
  pub not_passed : All (λ column. amount column ≤ number) columns

abbrev pub PeaksAreReached : Type 0
PeaksAreReached =
    (amount : Column → ℕ) (columns : List Column) → columns ≢ [] → IsPeak amount columns (most amount columns)

-- The list of what each loader holds has their names, each where the loader is.
abbrev pub LoadersAreListed : Type 0
LoadersAreListed =
    (course : CourseView) (loaders : List LoaderDetails)
    → map (λ (holding : Holding). holding.name) (map (holding_of course) loaders)
    ≡ map (λ (loader : LoaderDetails). loader.name) loaders

-- The loaders in order of size are all of them, and none comes before the one in front of it.
pub record IsRanking (holdings ranked : List Holding) : Type 0 where
  pub all : IsPermutation holdings ranked
  pub order : IsSortedBy comes_before ranked

abbrev pub LargestComeFirst : Type 0
LargestComeFirst = (holdings : List Holding) → IsRanking holdings (ranked_of holdings)

-- Each cell of the map is of one state: 64 of each root, as long as 64 bits hold their number.
abbrev pub cells_together : CellCounts → ℕ
cells_together cells =
    cells.free + cells.free_committed + cells.lent_uncommitted + cells.lent_partly + cells.lent_wholly

abbrev pub CellsAddUp : Type 0
CellsAddUp =
    (roots : List RootMap) → All (λ (root : RootMap). length root.cells ≡ 64) roots → 64 * length roots < 2 ^ 64
    → cells_together (cell_counts roots) ≡ 64 * length roots

-- Nothing of a text begins a tag, ends one, or ends an attribute.
pub record IsNoMarkup (byte : ℕ) : Type 0 where
  pub opens : byte ≢ 60
  pub closes : byte ≢ 62
  pub quotes : byte ≢ 34

abbrev pub EscapedTextHasNoMarkup : Type 0
EscapedTextHasNoMarkup = (text : List ℕ) → All IsNoMarkup (escaped text)
