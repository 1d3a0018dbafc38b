-- The peaks of a run: the most of each thing that it had at once (this project's choice).
use Rattle.std.specs.Prelude.{◌≡◌, ◌≤◌, ℕ, List, Option, IfSome, length}
use Rattle.std.specs.List.{All, Contains}
use Rattle.ms_base.specs.Laws.Peak.{granules_of_both}
use Rattle.ms_base.specs.State.{Machine, slots_in}
use Rattle.ms_base.specs.Totals.{over_spaces}
use Rattle.ms_answers.specs.declared.peaks.Peaks.{Peaks}
use Rattle.ms_run.specs.Metering.{used_words_of}

-- The reserved nodes of a machine, of both spaces, and its loaders.
abbrev pub nodes_of_both : Machine → ℕ
nodes_of_both m = over_spaces (λ space. length (slots_in space m))

abbrev pub loaders_of : Machine → ℕ
loaders_of m = length m.loaders

-- What a machine has of each.
abbrev pub usage_of : Machine → Peaks
usage_of m = record {
  granules = granules_of_both m;
  nodes = nodes_of_both m;
  used = used_words_of m;
  loaders = loaders_of m;
}

-- A number is the peak of an amount over states: one of them has it, and none has more.
pub record IsPeak (amount : Machine → ℕ) (states : List Machine) (peak : ℕ) : Type 0 where
  pub reached : (state : Machine) × Contains states state × (amount state ≡ peak)
  pub not_passed : All (λ state. amount state ≤ peak) states

-- Each of the numbers is, by itself.
pub record ArePeaks (states : List Machine) (peaks : Peaks) : Type 0 where
  pub granules : IsPeak granules_of_both states peaks.granules
  pub nodes : IsPeak nodes_of_both states peaks.nodes
  pub used : IsPeak used_words_of states peaks.used
  pub loaders : IsPeak loaders_of states peaks.loaders

-- The same where they are kept.
abbrev pub ArePeaksIfKept : List Machine → Option Peaks → Type 0
ArePeaksIfKept states peaks = IfSome peaks (ArePeaks states)
