-- The most over columns, with one column more, and that it is reached. `peaks_of` and `laws` use these.
use Rattle.std.proofs.Common.{◌≡◌, ◌≢◌, ◌<◌, ◌≤◌, ◌+◌, ◌∙◌, ◌⊎◌, inl, inr, ℕ, List, [], ◌∷◌, ◌++◌, length, take, get_or}
use Rattle.std.proofs.Common.{refl, sym, ap, arith}
use Rattle.std.specs.Prelude.{max}
use Rattle.std.specs.List.{All, Contains}
use Rattle.std.proofs.lemmas.Bool.{cases_lt}
use Rattle.std.proofs.lemmas.List.{take_more}
use Rattle.std.proofs.lemmas.List.Elements.{All-cons, All-nil, Contains-append_left, Contains-append_right, Contains-push}
use Rattle.ms_course.specs.declared.column.Column.{Column}
use Rattle.ms_course.specs.declared.standing.Extent.{Extent}
use Rattle.ms_course.specs.Course.{greater_extent, greater_standing}
use Rattle.ms_page.specs.Laws.{IsPeak}
use Rattle.ms_page.specs.Peaks.{most, most_words, peaks_of}

most_push : (amount : Column → ℕ) (columns : List Column) (column : Column)
    → most amount (columns ++ column ∷ []) ≡ max (most amount columns) (amount column)
most_push amount [] column = omega arith
most_push amount (first ∷ columns) column = omega (arith, most_push amount columns column)

words_push : (extent : Column → Extent) (columns : List Column) (column : Column)
    → most_words extent (columns ++ column ∷ []) ≡ greater_extent (most_words extent columns) (extent column)
words_push extent columns column = λ i. record {
  reserved = most_push (λ column. (extent column).reserved) columns column i;
  committed = most_push (λ column. (extent column).committed) columns column i;
  used = most_push (λ column. (extent column).used) columns column i;
  live = most_push (λ column. (extent column).live) columns column i;
}

peaks_push : (columns : List Column) (column : Column)
    → peaks_of (columns ++ column ∷ []) ≡ greater_standing (peaks_of columns) column.most
peaks_push columns column = λ i. record {
  both = words_push (λ column. column.most.both) columns column i;
  class_space = words_push (λ column. column.most.class_space) columns column i;
  loaders = most_push (λ column. column.most.loaders) columns column i;
}

pub peaks_more : (columns : List Column) (at : ℕ) (other column : Column) → at < length columns
    → column ≡ get_or columns at other
    → peaks_of (take (at + 1) columns) ≡ greater_standing (peaks_of (take at columns)) column.most
peaks_more columns at other column more is =
    ap peaks_of (take_more columns at other more ∙ ap (λ (c : Column). take at columns ++ c ∷ []) (sym is))
    ∙ peaks_push (take at columns) column

-- No column has more than the most, and one of them has it.
most_not_passed : (amount : Column → ℕ) (columns : List Column)
    → All (λ column. amount column ≤ most amount columns) columns
most_not_passed amount [] = All-nil (λ column. amount column ≤ 0)
most_not_passed amount (first ∷ columns) =
    All-cons (λ column. amount column ≤ most amount (first ∷ columns)) first columns (omega arith)
    (λ k d within. omega (arith, most_not_passed amount columns k d within))

abbrev Reached : (Column → ℕ) → List Column → Type 0
Reached amount columns = (column : Column) × Contains columns column × (amount column ≡ most amount columns)

greater_reached : (amount : Column → ℕ) (first : Column) (columns : List Column) → Reached amount columns
    → (amount first < most amount columns) ⊎ (most amount columns ≤ amount first) → Reached amount (first ∷ columns)
greater_reached amount first columns later (inl less) =
    (later.0, Contains-append_right (first ∷ []) columns later.0 later.1, omega (arith, later.2, less))
greater_reached amount first columns later (inr more) =
    (first, Contains-append_left (first ∷ []) columns first (Contains-push [] first), omega (arith, more))

most_reached : (amount : Column → ℕ) (first : Column) (columns : List Column) → Reached amount (first ∷ columns)
most_reached amount first [] = (first, Contains-push [] first, omega arith)
most_reached amount first (next ∷ columns) =
    greater_reached amount first (next ∷ columns) (most_reached amount next columns)
    (cases_lt (amount first) (most amount (next ∷ columns)))

pub is_peak : (amount : Column → ℕ) (columns : List Column) → columns ≢ []
    → IsPeak amount columns (most amount columns)
is_peak amount [] some = absurd (some refl)
is_peak amount (first ∷ columns) some =
    record { reached = most_reached amount first columns; not_passed = most_not_passed amount (first ∷ columns) }
