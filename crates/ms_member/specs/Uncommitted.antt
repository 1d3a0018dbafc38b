-- Granules that were committed and are no more, and their runs.
use Rattle.std.specs.Prelude.{◌≡◌, ℕ, ◌+◌, ◌<◌, ◌≤◌, ◌⊎◌, Bool, true, false, not, ◌&&◌, List, ◌++◌, get_or}
use Rattle.ms_base.specs.Committed.{is_among}
use Rattle.ms_loaders.specs.declared.system.committing.GranuleRun.{GranuleRun}

-- Which granules are committed by both spaces' sets; and by none.
abbrev pub commits_in : List ℕ → List ℕ → ℕ → Bool
commits_in committed class_committed granule = is_among (committed ++ class_committed) granule

abbrev pub commits_none : ℕ → Bool
commits_none granule = false

-- A granule was committed by its flag, and is no more.
abbrev pub is_uncommitted : List Bool → (ℕ → Bool) → ℕ → Bool
is_uncommitted was commits granule = get_or was granule false && not (commits granule)

-- The first of such granules from a number on; and there is none.
pub record IsFirst (went : ℕ → Bool) (from first : ℕ) : Type 0 where
  pub after : from ≤ first
  pub skipped : (granule : ℕ) → from ≤ granule → granule < first → went granule ≡ false
  pub is : went first ≡ true

abbrev pub LacksFrom : (ℕ → Bool) → ℕ → Type 0
LacksFrom went from = (granule : ℕ) → from ≤ granule → went granule ≡ false

-- The run begins with the first of them, each of its granules is one, and the one at its end isn't.
pub record IsNextRun (went : ℕ → Bool) (from : ℕ) (run : GranuleRun) : Type 0 where
  pub begins : IsFirst went from run.first
  pub some : 0 < run.granules
  pub each : (granule : ℕ) → run.first ≤ granule → granule < run.first + run.granules → went granule ≡ true
  pub ends : went (run.first + run.granules) ≡ false
  pub none_came : run.came ≡ 0

-- There is none, and the run has no granules.
pub record HasNoRun (went : ℕ → Bool) (from : ℕ) (run : GranuleRun) : Type 0 where
  pub none : LacksFrom went from
  pub run_is : run ≡ record { first = from; granules = 0; came = 0 }

-- The next run from a number on, where there is one.
abbrev pub IsNext : (ℕ → Bool) → ℕ → GranuleRun → Type 0
IsNext went from run = IsNextRun went from run ⊎ HasNoRun went from run
