-- Columns that show one moment more. `Columns.push` uses these.
use Rattle.std.proofs.Common.{◌≡◌, ◌≢◌, ◌+◌, ◌<◌, ◌⊎◌, inl, inr, ℕ, true, false, List, [], ◌∷◌, ◌++◌}
use Rattle.std.proofs.Common.{length, sym, ap, ◌∙◌, arith, get_or, length-append}
use Rattle.std.specs.Prelude.{Some, slice_get, slice_set}
use Rattle.std.proofs.lemmas.Bool.Decides.{eqb_tells}
use Rattle.std.proofs.Math.Dec.{eqb}
use Rattle.std.proofs.lemmas.Grind.{get_or-set_at}
use Rattle.std.proofs.lemmas.List.{get_or-set_other, length-set}
use Rattle.std.proofs.lemmas.List.Elements.{All-set}
use Rattle.std.proofs.lemmas.Option.{slice_get-get_or, get_or_from_slice_get}
use Rattle.ms_course.specs.declared.moment.Moment.{Moment}
use Rattle.ms_course.specs.declared.column.Column.{Column}
use Rattle.ms_course.specs.Course.{ColumnsView, Shows, column_count, column_in, column_of, falling, with_moment}
use Rattle.ms_course.specs.Fewness.{AreFew, IsFilling}
use Rattle.ms_course.proofs.FallingLemmas.{its_column, other_column, past_columns}

-- Few of so many are few of one more.
few_of_more : (most : ℕ) (column : Column) → AreFew most column → AreFew (most + 1) column
few_of_more most column few = record {
  lines = omega (arith, few.lines);
  unloads = omega (arith, few.unloads);
  purges = omega (arith, few.purges);
  refusals = omega (arith, few.refusals);
  reports = omega (arith, few.reports);
}

pub filled : (lines answered index : ℕ) (columns : List Column) (new : Column) → IsFilling lines answered columns
    → answered < lines → AreFew (answered + 1) new → IsFilling lines (answered + 1) (slice_set columns index new)
filled lines answered index columns new its goes few = record {
  within = omega (arith, goes);
  count = length-set columns index new ∙ its.count;
  few =
      All-set (AreFew (answered + 1)) columns index new few
      (λ k d within. few_of_more answered (get_or columns k d) (its.few k d within));
}

-- Columns with one changed.
abbrev pub view_with : ℕ → ℕ → List Column → ColumnsView
view_with lines answered columns = record { lines = lines; answered = answered; columns = columns }

-- They show the moment after the next line.
pub shows_next : (lines answered index : ℕ) (columns : List Column) (new d : Column)
    (moments : List Moment) (moment : Moment) → Shows (view_with lines answered columns) moments → answered < lines
    → index ≡ column_of lines answered → index < column_count lines
    → new ≡ with_moment (get_or columns index d) moment
    → Shows (view_with lines (answered + 1) (slice_set columns index new)) (moments ++ moment ∷ [])
shows_next lines answered index columns new d moments moment its goes is within new_is =
    let so_many : answered ≡ length moments = omega (arith, its.answered, goes) in
    let there : column_of lines (length moments) ≡ index = ap (column_of lines) (sym so_many) ∙ sym is in
    record {
      answered = omega (arith, length-append moments (moment ∷ []), so_many, goes);
      count = length-set columns index new ∙ its.count;
      each = λ column below. at column below there (eqb_tells column index);
    }
  where
    was : (d : Column) (column : ℕ) → column < column_count lines
        → get_or columns column d ≡ column_in (falling lines column 0 moments)
    was d column below =
        get_or_from_slice_get columns column (column_in (falling lines column 0 moments)) d (its.each column below)

    now : (column : ℕ) → column < column_count lines
        → slice_get (slice_set columns index new) column ≡ Some (get_or (slice_set columns index new) column new)
    now column below =
        slice_get-get_or (slice_set columns index new) column new
        (omega (arith, below, length-set columns index new, its.count))

    at : (column : ℕ) → column < column_count lines → column_of lines (length moments) ≡ index
        → ((eqb column index ≡ true) × (column ≡ index)) ⊎ ((eqb column index ≡ false) × (column ≢ index))
        → slice_get (slice_set columns index new) column
        ≡ Some (column_in (falling lines column 0 (moments ++ moment ∷ [])))
    at column below there (inl same) =
        now column below
        ∙ ap Some (get_or-set_at columns index column new new same.1 (omega (arith, within, its.count))
        ∙ new_is
        ∙ ap (λ (old : Column). with_moment old moment) (was d index within)
        ∙ sym (its_column lines index moments moment there)
        ∙ ap (λ (k : ℕ). column_in (falling lines k 0 (moments ++ moment ∷ []))) (sym same.1))
    at column below there (inr other) =
        now column below
        ∙ ap Some (get_or-set_other columns index column new new other.1 ∙ was new column below
        ∙ sym (other_column lines column moments moment (λ e. other.1 (sym e ∙ there))))

-- A moment past the lines falls into none.
pub shows_past : (lines answered : ℕ) (columns : List Column) (moments : List Moment) (moment : Moment)
    → Shows (view_with lines answered columns) moments → answered ≡ lines
    → Shows (view_with lines answered columns) (moments ++ moment ∷ [])
shows_past lines answered columns moments moment its all = record {
  answered = omega (arith, length-append moments (moment ∷ []), its.answered, all);
  count = its.count;
  each = λ column below.
      its.each column below
      ∙ ap Some (sym (other_column lines column moments moment
      (past_columns lines column (length moments) (omega (arith, its.answered, all)) below)));
}
