-- Sizes for people: words told in KB or MB (this project's choice).
use Rattle.std.specs.Prelude.{ℕ, ◌*◌, ◌/◌, ◌%◌, List, ◌++◌, codes, nat_lt, if◌then◌else◌}
use Rattle.std.specs.Fmt.{decimal}
use Rattle.ms_report.specs.Layout.{right_in}

-- A number with one digit after its point: what is whole right in its width, and the tenths.
abbrev pub pointed : ℕ → ℕ → ℕ → List ℕ
pointed width whole tenths = right_in width (decimal whole) ++ codes "." ++ right_in 1 (decimal tenths)

-- How many units of so many words there are, cut off after one digit.
abbrev pub units_in : ℕ → ℕ → List ℕ
units_in unit words = pointed 7 (words / unit) (words % unit * 10 / unit)

-- A size in KB of 128 words where it is less than a MB of 131072 words, else in MB.
abbrev pub size_in : ℕ → List ℕ
size_in words = if nat_lt words 131072 then units_in 128 words ++ codes " KB" else units_in 131072 words ++ codes " MB"
