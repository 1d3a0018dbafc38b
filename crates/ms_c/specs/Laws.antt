-- What the runs of uncommitted granules are together, and of which set they are.
use Rattle.std.specs.Prelude.{◌≡◌, ℕ, ◌+◌, ◌<◌, ◌≤◌, Bool, false, not, ◌&&◌, ◌||◌, List, [], ◌∷◌, nat_le, nat_lt, Some}
use Rattle.ms_base.specs.State.{Machine}
use Rattle.ms_loaders.specs.declared.system.committing.GranuleRun.{GranuleRun}
use Rattle.ms_c.specs.Sums.{AreBits}
use Rattle.ms_member.specs.Uncommitted.{is_uncommitted, IsNextRun, LacksFrom}
use Rattle.ms_c.specs.Runs.{commits_of}

-- Runs that are asked for one after another, each from the end of the one before, until there is none.
abbrev pub AreAsked : (ℕ → Bool) → ℕ → List GranuleRun → Type 0
AreAsked went from [] = LacksFrom went from
AreAsked went from (run ∷ runs) = IsNextRun went from run × AreAsked went (run.first + run.granules) runs

-- A granule is one of a run, and of one of several.
abbrev pub is_of : GranuleRun → ℕ → Bool
is_of run granule = nat_le run.first granule && nat_lt granule (run.first + run.granules)

abbrev pub is_of_one : List GranuleRun → ℕ → Bool
is_of_one [] granule = false
is_of_one (run ∷ runs) granule = is_of run granule || is_of_one runs granule

-- The runs have granules, rise from a number on, and don't touch one another.
abbrev pub AreApart : ℕ → List GranuleRun → Type 0
AreApart from [] = Unit {0}
AreApart from (run ∷ runs) =
    (from ≤ run.first) × (0 < run.granules) × AreApart (run.first + run.granules + 1) runs

-- The runs are apart, and have the granules that were committed by their flags and are no more.
pub record AreDifference (was : List Bool) (commits : ℕ → Bool) (runs : List GranuleRun) : Type 0 where
  pub apart : AreApart 0 runs
  pub granules : (granule : ℕ) → is_of_one runs granule ≡ is_uncommitted was commits granule

abbrev pub RunsAreTheDifference : Type 0
RunsAreTheDifference =
    (was : List Bool) (commits : ℕ → Bool) (runs : List GranuleRun)
    → AreAsked (is_uncommitted was commits) 0 runs → AreDifference was commits runs

-- Of flags that were taken of a machine, those granules went that were committed and are no more.
abbrev pub FlagsAreTheSetBefore : Type 0
FlagsAreTheSetBefore =
    (before after : Machine) (count : ℕ) (was : List Bool) → AreBits (Some before) 0 count was
    → (granule : ℕ) → is_uncommitted was (commits_of (Some after)) granule
    ≡ (nat_lt granule count && (commits_of (Some before) granule && not (commits_of (Some after) granule)))
