-- What the tables and columns of the code stand for.
use Rattle.std.specs.Prelude.{◌≡◌, ◌≤◌, ℕ, List, [], ◌∷◌, ◌++◌, codes, map, drop, take, replicate, IsAscii}
use Rattle.std.specs.Fmt.{decimal}
use denote.Ref.{Bor}
use Rattle.ms_report.specs.declared.usage.Amount.{Amount}
use Rattle.ms_report.specs.Layout.{right_in}

-- A text beside a number.
abbrev pub pair_in : Bor (List ℕ) × ℕ → List ℕ × ℕ
pair_in pair = (pair.0.now, pair.1)

abbrev pub pairs_in : List (Bor (List ℕ) × ℕ) → List (List ℕ × ℕ)
pairs_in pairs = map pair_in pairs

-- A text beside an amount.
abbrev pub row_in : Bor (List ℕ) × Amount → List ℕ × Amount
row_in row = (row.0.now, row.1)

abbrev pub rows_in : List (Bor (List ℕ) × Amount) → List (List ℕ × Amount)
rows_in rows = map row_in rows

-- A number, right in its width.
abbrev pub aligned : ℕ × ℕ → List ℕ
aligned column = right_in column.0 (decimal column.1)

-- Numbers, each right in its width.
abbrev pub all_aligned : List (ℕ × ℕ) → List ℕ
all_aligned [] = []
all_aligned (column ∷ columns) = aligned column ++ all_aligned columns

-- Four numbers, one beside the other, and the line's end.
abbrev pub four_line : ℕ × ℕ → ℕ × ℕ → ℕ × ℕ → ℕ × ℕ → List ℕ
four_line first second third fourth =
    aligned first ++ (aligned second ++ (aligned third ++ (aligned fourth ++ codes "\n")))

-- A line that is written from its end: it is blank up to a byte, and from there on it is ASCII.
pub record IsLine (from : ℕ) (bytes : List ℕ) : Type 0 where
  pub within : from ≤ 192
  pub blank : take from bytes ≡ replicate from 32
  pub ascii : IsAscii (drop from bytes)
