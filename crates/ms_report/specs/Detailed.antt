-- The text of a full report: the fixed text, then the parts Settings, Usage, Kinds, Loaders,
-- Refused, Peaks and Map (this project's choice).
use Rattle.std.specs.Prelude.{ℕ, ◌/◌, ◌%◌, ◌==◌, List, [], ◌∷◌, ◌++◌, Option, Some, None, codes, if◌then◌else◌}
use Rattle.std.specs.Fmt.{decimal}
use Rattle.ms_base.specs.declared.settings.Settings.{Settings}
use Rattle.ms_base.specs.Totals.{Sums}
use Rattle.ms_answers.specs.Details.{DetailSums}
use Rattle.ms_answers.specs.declared.verbosity.Verbosity.{Verbosity}
use Rattle.ms_answers.specs.declared.verbosity.Verbosity.TheVariants.{Basic, Full}
use Rattle.ms_report.specs.declared.usage.Amount.{Amount}
use Rattle.ms_report.specs.declared.usage.Usage.{Usage}
use Rattle.ms_report.specs.declared.usage.Usages.{Usages}
use Rattle.ms_answers.specs.declared.peaks.Peaks.{Peaks}
use Rattle.ms_report.specs.Layout.{left_in, right_in}
use Rattle.ms_report.specs.Peaks.{peaks_part}
use Rattle.ms_report.specs.Sizes.{pointed, size_in}
use Rattle.ms_report.specs.Sections.{report_text}
use Rattle.ms_report.specs.Refused.{refused_part}
use Rattle.ms_report.specs.Setup.{settings_part}
use Rattle.ms_report.specs.Kinds.{kinds_part}
use Rattle.ms_report.specs.Holdings.{holdings_part}
use Rattle.ms_report.specs.Map.{map_part}
use Rattle.ms_report.specs.declared.refused.Refusals.{Refusals}
use Rattle.ms_report.specs.Usage.{usages_of}

-- A share in per cent, and a dash where there is none.
abbrev pub share_in : Option ℕ → List ℕ
share_in None = codes "         -"
share_in (Some tenths) = pointed 8 (tenths / 10) (tenths % 10)

-- The line of an amount: its label, its words, the size that they make, its share.
abbrev pub amount_line : List ℕ → Amount → List ℕ
amount_line label amount =
    codes "  " ++ left_in 12 label ++ right_in 12 (decimal amount.words) ++ size_in amount.words
    ++ share_in amount.share
    ++ codes "\n"

-- Such a line for each label with its amount.
abbrev pub amount_lines : List (List ℕ × Amount) → List ℕ
amount_lines [] = []
amount_lines (row ∷ rows) = amount_line row.0 row.1 ++ amount_lines rows

-- The six amounts of a usage, with their labels.
abbrev pub usage_rows : Usage → List (List ℕ × Amount)
usage_rows usage =
    (codes "reserved", usage.reserved)
    ∷ (codes "committed", usage.committed)
    ∷ (codes "used", usage.used)
    ∷ (codes "live", usage.live)
    ∷ (codes "free blocks", usage.free_blocks)
    ∷ (codes "waste", usage.waste)
    ∷ []

-- The line of their headings.
abbrev pub usage_headings : List ℕ
usage_headings = codes "                     words        size  per cent\n"

-- A usage under a title.
abbrev pub titled_usage : List ℕ → Usage → List ℕ
titled_usage title usage = title ++ usage_headings ++ amount_lines (usage_rows usage)

-- That of the class space, and that of both; left out where the class space has no nodes.
abbrev pub class_usages : Usages → List ℕ
class_usages usages =
    titled_usage (codes "Class usage\n") usages.class_space ++ titled_usage (codes "Usage of both\n") usages.both

abbrev pub class_usage : ℕ → Usages → List ℕ
class_usage nodes usages = if nodes == 0 then [] else class_usages usages

-- The usage of the space that is not the class space comes first.
abbrev pub usage_part : Settings → Sums → List ℕ
usage_part settings sums =
    titled_usage (codes "Usage\n") (usages_of settings sums).space
    ++ class_usage sums.class_space.nodes (usages_of settings sums)

-- What the loaders hold, by kind and each by itself; left out where it isn't told.
abbrev pub details_part : Option DetailSums → List ℕ
details_part None = []
details_part (Some details) = kinds_part details.loaders ++ holdings_part details.loaders

-- The maps of roots; left out where they aren't told.
abbrev pub maps_part : Option DetailSums → List ℕ
maps_part None = []
maps_part (Some details) = map_part details.roots

-- A full report.
abbrev pub full_text : Settings → Refusals → Sums → Option DetailSums → Option Peaks → List ℕ
full_text settings refusals sums details peaks =
    report_text sums ++ settings_part settings ++ usage_part settings sums ++ details_part details
    ++ refused_part refusals
    ++ peaks_part settings peaks
    ++ maps_part details

-- A report of the verbosity asked for.
abbrev pub detailed_text : Verbosity → Settings → Refusals → Sums → Option DetailSums → Option Peaks → List ℕ
detailed_text Basic settings refusals sums details peaks = report_text sums
detailed_text Full settings refusals sums details peaks = full_text settings refusals sums details peaks
