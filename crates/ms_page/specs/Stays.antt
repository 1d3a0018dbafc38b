-- Since when the loaders of the end are there, in columns (this project's choice).
use Rattle.std.specs.Prelude.{◌≡◌, ◌<◌, ℕ, ◌+◌, ◌==◌, ◌&&◌, nat_le, nat_lt, Bool, List, length, map, slice_index, slice_set, sum, take, if◌then◌else◌}
use Rattle.std.specs.List.{count_by, range_with_len}
use Rattle.ms_course.specs.Course.{ColumnsView, column_of}
use Rattle.ms_page.specs.declared.holding.Holding.{Holding}

-- A loader's birth lies among the lines of a run, and there in a column, or in it or an earlier one.
abbrev pub is_born_in : ℕ → ℕ → Holding → Bool
is_born_in lines column holding =
    nat_lt holding.since.position lines && column_of lines holding.since.position == column

abbrev pub is_born_by : ℕ → ℕ → Holding → Bool
is_born_by lines column holding =
    nat_lt holding.since.position lines && nat_le (column_of lines holding.since.position) column

-- How many loaders are there by each column.
abbrev pub stays_of : ColumnsView → List Holding → List ℕ
stays_of columns holdings =
    map (λ column. count_by (is_born_by columns.lines column) holdings)
    (range_with_len 0 (length columns.columns))

-- Numbers by column count the births of these loaders.
abbrev pub AreBirths : ℕ → List Holding → List ℕ → Type 0
AreBirths lines holdings births =
    (column : ℕ) → column < length births
    → slice_index births column ≡ count_by (is_born_in lines column) holdings

-- The numbers with one birth more.
abbrev pub with_birth : ℕ → ℕ → List ℕ → List ℕ
with_birth lines position births =
    if nat_lt position lines
    then slice_set births (column_of lines position) (slice_index births (column_of lines position) + 1) else births

-- Of so many of the numbers, each with all before it; and of all of them.
abbrev pub sums_to : List ℕ → ℕ → List ℕ
sums_to numbers count = map (λ last. sum (take (last + 1) numbers)) (range_with_len 0 count)

abbrev pub sums_of : List ℕ → List ℕ
sums_of numbers = sums_to numbers (length numbers)
