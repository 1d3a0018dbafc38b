-- Which lines fall into which column, and which moments do with one moment more. `Columns.push`
-- and `laws` use these.
use Rattle.std.proofs.Common.{◌≡◌, ◌≢◌, ◌+◌, ◌*◌, ◌/◌, ◌<◌, ◌≤◌, ◌==◌, ℕ, zero, suc, Bool, List, [], ◌∷◌, ◌++◌}
use Rattle.std.proofs.Common.{length, sym, ap, ◌∙◌, arith, append_assoc, eq-eqb}
use Rattle.std.specs.Prelude.{if◌then◌else◌}
use Rattle.std.proofs.lemmas.Bool.{ne_eqb}
use Rattle.std.proofs.lemmas.List.{append-nil}
use Rattle.std.proofs.Math.Nat.{div-lt_iff_lt-mul, div-mul-le_self, div-zero, le-div_iff_mul-le, mul-div_left}
use Rattle.std.proofs.Math.Nat.{mul-le-mul_left, mul-le-mul_right}
use Rattle.std.proofs.lemmas.Nat.{le-div}
use Rattle.ms_course.specs.declared.moment.Moment.{Moment}
use Rattle.ms_course.specs.Course.{column_count, column_in, column_of, falling, with_moment}
use Rattle.ms_course.proofs.MomentLemmas.{column_push}

-- A moment where a line falls into a column.
abbrev here : Bool → Moment → List Moment
here falls moment = if falls then moment ∷ [] else []

-- The last one falls into its column.
falling_push : (lines column position : ℕ) (moments : List Moment) (moment : Moment)
    → falling lines column position (moments ++ moment ∷ [])
    ≡ falling lines column position moments ++ here (column_of lines (position + length moments) == column) moment
falling_push lines column position [] moment =
    append-nil (here (column_of lines position == column) moment)
    ∙ ap (λ (p : ℕ). here (column_of lines p == column) moment) (omega arith)
falling_push lines column position (first ∷ moments) moment =
    let its = here (column_of lines position == column) first in
    let later = falling lines column (position + 1) moments in
    let next : position + 1 + length moments ≡ position + length (first ∷ moments) = omega arith in
    ap (λ (others : List Moment). its ++ others) (falling_push lines column (position + 1) moments moment)
    ∙ sym (append_assoc its later (here (column_of lines (position + 1 + length moments) == column) moment))
    ∙ ap (λ (p : ℕ). its ++ later ++ here (column_of lines p == column) moment) next

falls_last : (lines column : ℕ) (moments : List Moment) (moment : Moment)
    → falling lines column 0 (moments ++ moment ∷ [])
    ≡ falling lines column 0 moments ++ here (column_of lines (length moments) == column) moment
falls_last lines column moments moment =
    falling_push lines column 0 moments moment
    ∙ ap (λ (p : ℕ). falling lines column 0 moments ++ here (column_of lines p == column) moment) (omega arith)

-- So that column shows it, and the others show what they showed.
pub its_column : (lines column : ℕ) (moments : List Moment) (moment : Moment)
    → column_of lines (length moments) ≡ column
    → column_in (falling lines column 0 (moments ++ moment ∷ []))
    ≡ with_moment (column_in (falling lines column 0 moments)) moment
its_column lines column moments moment is =
    ap column_in (falls_last lines column moments moment
    ∙ ap (λ (b : Bool). falling lines column 0 moments ++ here b moment)
    (eq-eqb (column_of lines (length moments)) column is))
    ∙ column_push (falling lines column 0 moments) moment

pub other_column : (lines column : ℕ) (moments : List Moment) (moment : Moment)
    → column_of lines (length moments) ≢ column
    → column_in (falling lines column 0 (moments ++ moment ∷ []))
    ≡ column_in (falling lines column 0 moments)
other_column lines column moments moment differs =
    ap column_in (falls_last lines column moments moment
    ∙ ap (λ (b : Bool). falling lines column 0 moments ++ here b moment)
    (ne_eqb (column_of lines (length moments)) column differs)
    ∙ append-nil (falling lines column 0 moments))

-- A position past the lines falls into no column that there is.
pub past_columns : (lines column position : ℕ) → lines ≤ position → column < column_count lines
    → column_of lines position ≢ column
past_columns lines column position past within is =
    let some : 0 < lines = omega (arith, within) in
    let high : column_count lines * lines ≤ column_count lines * position = mul-le-mul_left (column_count lines) past in
    omega (
      arith,
      within,
      is,
      (le-div_iff_mul-le {x = column_count lines} {y = position * column_count lines} some).1
          (omega (arith, high)),
    )

-- Each line falls into a column that there is, a later one into no earlier column, and few lines
-- into one each.
pub falls_within : (lines position : ℕ) → position < lines → column_of lines position < column_count lines
falls_within lines position below =
    let count = column_count lines in
    let some : 0 < lines = omega (arith, below) in
    let next : (position + 1) * count ≤ lines * count = mul-le-mul_right {m = position + 1} {n = lines} count
    (omega (arith, below)) in
    (div-lt_iff_lt-mul {k = lines} {x = position * count} {y = count} some).1 (omega (arith, next, some))

pub falls_in_order : (lines first second : ℕ) → first ≤ second → column_of lines first ≤ column_of lines second
falls_in_order zero first second order =
    omega (arith, div-zero (first * column_count zero), div-zero (second * column_count zero))
falls_in_order (suc lines) first second order =
    let count = column_count (suc lines) in
    le-div (column_of (suc lines) first) (second * count) (suc lines) (omega arith) (omega (
      arith,
      div-mul-le_self (first * count) (suc lines),
      mul-le-mul_right {m = first} {n = second} count order,
    ))

pub falls_alone : (lines position : ℕ) → position < lines → lines ≤ 512 → column_of lines position ≡ position
falls_alone lines position below few =
    let all : column_count lines ≡ lines = omega (arith, few) in
    ap (λ (count : ℕ). position * count / lines) all ∙ mul-div_left position (omega (arith, below))
