-- Laws about the layout: within the limits each line of a kind has the same length, and no two
-- columns run together. Each is the contract of a function of `laws`.
use Rattle.std.specs.Prelude.{◌≡◌, ℕ, ◌+◌, ◌≤◌, ◌<◌, ◌^◌, List, ◌∷◌, length}
use Rattle.std.specs.Fmt.{decimal}
use Rattle.std.specs.List.{All}
use Rattle.ms_base.specs.declared.kind.Kind.{Kind}
use Rattle.ms_base.specs.declared.kind.Space.{Space}
use Rattle.ms_base.specs.declared.step.Reply.{Reply}
use Rattle.ms_base.specs.Good.{IsGood}
use Rattle.ms_base.specs.State.{Machine}
use Rattle.ms_base.specs.Totals.{LoaderRow, space_sums}
use Rattle.ms_answers.specs.Details.{ArenaSums, LoaderSums}
use Rattle.ms_report.specs.declared.kinds.KindTotals.{KindTotals}
use Rattle.ms_report.specs.Kinds.{kind_table, kind_line}
use Rattle.ms_report.specs.Holdings.{holding_table, holding_line}
use Rattle.ms_report.specs.Layout.{number_line, right_in, table_line, header, level_table, level_texts, loader_table}
use Rattle.ms_report.specs.Layout.{loader_texts, space_rows}
use Rattle.ms_report.specs.Refused.{refused_rows, refusals_of}

-- A line of a label and a number has 26 bytes and a newline.
abbrev pub NumbersLineUp : Type 0
NumbersLineUp =
    (label : List ℕ) (number : ℕ) → length label ≤ 12 → number < 10 ^ 12 → length (number_line label number) ≡ 27

-- The refusals of fewer than 10 to the 12th replies: each of their lines has 26 bytes and a newline.
abbrev pub RefusalsLineUp : Type 0
RefusalsLineUp =
    (replies : List Reply) → length replies < 10 ^ 12
    → All (λ (row : List ℕ × ℕ). length (number_line row.0 row.1) ≡ 27) (refused_rows (refusals_of replies))

-- The eleven numbers of a space: so has each of their lines, whatever a machine went through.
abbrev pub SpacesLineUp : Type 0
SpacesLineUp =
    (space : Space) (m : Machine) → IsGood m
    → All (λ (row : List ℕ × ℕ). length (number_line row.0 row.1) ≡ 27) (space_rows (space_sums space m))

-- The line of a level has 31 bytes and a newline, and so have the headings.
abbrev pub LevelsLineUp : Type 0
LevelsLineUp =
    (length (header level_table) ≡ 32)
    × ((level held free : ℕ) → level ≤ 12 → held ≤ 655360 → free ≤ 655360
    → length (table_line level_table (level_texts level held free)) ≡ 32)

-- A loader's numbers are within the limits: names to 65535, no more chunks and words than both
-- spaces have.
pub record IsWithin (row : LoaderRow) : Type 0 where
  pub name : row.name ≤ 65535
  pub chunks : row.chunks ≤ 655360
  pub capacity : row.capacity ≤ 83886080
  pub used : row.used ≤ 83886080
  pub live : row.live ≤ 83886080

-- The line of a loader has 57 bytes and a newline, and so have the headings.
abbrev pub LoadersLineUp : Type 0
LoadersLineUp =
    (length (header loader_table) ≡ 58)
    × ((row : LoaderRow) → IsWithin row → length (table_line loader_table (loader_texts row)) ≡ 58)

-- The numbers of a kind and of a loader in a space are within the limits too.
pub record IsKindWithin (totals : KindTotals) : Type 0 where
  pub loaders : totals.loaders ≤ 65536
  pub chunks : totals.chunks ≤ 655360
  pub capacity : totals.capacity ≤ 83886080
  pub fronts : totals.fronts ≤ 83886080
  pub used : totals.used ≤ 83886080
  pub live : totals.live ≤ 83886080
  pub free_blocks : totals.free_blocks ≤ 83886080
  pub waste : totals.waste ≤ 83886080

pub record IsArenaWithin (arena : ArenaSums) : Type 0 where
  pub chunks : arena.chunks ≤ 655360
  pub capacity : arena.capacity ≤ 83886080
  pub fronts : arena.fronts ≤ 83886080
  pub used : arena.used ≤ 83886080
  pub live : arena.live ≤ 83886080
  pub free_blocks : arena.free_blocks ≤ 83886080
  pub waste : arena.waste ≤ 83886080

-- The line of a kind has 94 bytes and a newline, and so have the headings.
abbrev pub KindsLineUp : Type 0
KindsLineUp =
    (length (header kind_table) ≡ 95)
    × ((kind : Kind) (totals : KindTotals) → IsKindWithin totals → length (kind_line kind totals) ≡ 95)

-- The line of what a loader holds in a space has 101 bytes and a newline, and so have the headings.
abbrev pub HoldingsLineUp : Type 0
HoldingsLineUp =
    (length (header holding_table) ≡ 102)
    × ((loader : LoaderSums) (space : Space) (arena : ArenaSums) → loader.name ≤ 65535 → IsArenaWithin arena
    → length (holding_line loader space arena) ≡ 102)

-- A number with fewer digits than its column is wide has a space before it.
abbrev pub ColumnsStandApart : Type 0
ColumnsStandApart =
    (width number : ℕ) → 0 < width → width ≤ 18 → number < 10 ^ width
    → (rest : List ℕ) × (right_in (width + 1) (decimal number) ≡ 32 ∷ rest)
