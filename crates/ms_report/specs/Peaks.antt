-- The peaks of a run as text: the part Peaks of a full report (this project's choice).
use Rattle.std.specs.Prelude.{ℕ, ◌*◌, List, [], ◌++◌, Option, Some, None, codes}
use Rattle.std.specs.Fmt.{decimal}
use Rattle.ms_base.specs.declared.settings.Settings.{Settings}
use Rattle.ms_base.specs.Part.{node_words}
use Rattle.ms_base.specs.Policy.{granule_of}
use Rattle.ms_answers.specs.declared.peaks.Peaks.{Peaks}
use Rattle.ms_report.specs.Layout.{left_in, number_line, right_in}
use Rattle.ms_report.specs.Sizes.{size_in}

-- The line of a number of things that have so many words each: its label, the number, the size that
-- they make.
abbrev pub sized_line : List ℕ → ℕ → ℕ → List ℕ
sized_line label number words =
    codes "  " ++ left_in 12 label ++ right_in 12 (decimal number) ++ size_in (number * words) ++ codes "\n"

-- The peaks that are amounts of memory: granules, nodes, and words in use.
abbrev pub amount_peaks : Settings → Peaks → List ℕ
amount_peaks settings peaks =
    sized_line (codes "granules") peaks.granules (granule_of settings.policy)
    ++ sized_line (codes "nodes") peaks.nodes node_words
    ++ sized_line (codes "used") peaks.used 1

-- The line of their headings.
abbrev pub peak_headings : List ℕ
peak_headings = codes "                    number        size\n"

-- All peaks, that of loaders last.
abbrev pub all_peaks : Settings → Peaks → List ℕ
all_peaks settings peaks =
    codes "Peaks\n" ++ peak_headings ++ amount_peaks settings peaks
    ++ number_line (codes "loaders") peaks.loaders

-- They are left out where they aren't told.
abbrev pub peaks_part : Settings → Option Peaks → List ℕ
peaks_part settings None = []
peaks_part settings (Some peaks) = all_peaks settings peaks
