-- Births by column, and sums of them. `stays` and its parts use these.
use Rattle.std.proofs.Common.{◌≡◌, ◌≢◌, ◌<◌, ◌≤◌, ◌+◌, ◌∙◌, ◌==◌, ◌&&◌, ℕ, zero, suc, Bool, true, false}
use Rattle.std.proofs.Common.{List, [], ◌∷◌, ◌++◌, length, take, get_or, set, sum, sym, ap, subst, refl, arith, if◌then◌else◌}
use Rattle.std.specs.Prelude.{cond, nat_le, nat_lt}
use Rattle.std.specs.List.{count_by}
use Rattle.std.proofs.lemmas.Bool.{eqb-false, eqb-true}
use Rattle.std.proofs.lemmas.Bool.Decides.{nat_tests}
use Rattle.std.proofs.lemmas.List.{take_all, take_more, get_or-set_same, get_or-set_other, get_or_default, length-set, same_lists}
use Rattle.std.proofs.lemmas.List.FromFn.{get_or-map-range_with_len, length-map-range_with_len, map-range_with_len_more}
use Rattle.std.proofs.lemmas.List.Sums.{count_by-le-length, sum_by-cons, sum_by_more, sum_by_push}
use Rattle.ms_course.specs.Course.{ColumnsView, column_of}
use Rattle.ms_page.specs.declared.holding.Holding.{Holding}
use Rattle.ms_page.specs.Stays.{AreBirths, is_born_by, is_born_in, stays_of, sums_of, sums_to, with_birth}

-- Two counts that join to a third.
counts_join : (one other both : Holding → Bool)
    → ((holding : Holding) → cond (one holding) 1 0 + cond (other holding) 1 0 ≡ cond (both holding) 1 0)
    → (holdings : List Holding) → count_by one holdings + count_by other holdings ≡ count_by both holdings
counts_join one other both each [] = refl
counts_join one other both each (holding ∷ holdings) = omega (
  arith,
  sum_by-cons (λ (h : Holding). cond (one h) 1 0) holding holdings,
  sum_by-cons (λ (h : Holding). cond (other h) 1 0) holding holdings,
  sum_by-cons (λ (h : Holding). cond (both h) 1 0) holding holdings,
  each holding,
  counts_join one other both each holdings,
)

-- A loader's birth lies before a column.
abbrev is_born_before : ℕ → ℕ → Holding → Bool
is_born_before lines column holding =
    nat_lt holding.since.position lines && nat_lt (column_of lines holding.since.position) column

before_more : (is : Bool) (column birth : ℕ)
    → cond (is && nat_lt birth column) 1 0 + cond (is && birth == column) 1 0 ≡ cond (is && nat_lt birth (column + 1)) 1 0
before_more false column birth = refl
before_more true column birth = grind (arith, nat_tests)

before_none : (is : Bool) (birth : ℕ) → cond (is && nat_lt birth 0) 1 0 + cond (is && nat_lt birth 0) 1 0
    ≡ cond (is && nat_lt birth 0) 1 0
before_none false birth = refl
before_none true birth = grind (arith, nat_tests)

before_is_by : (is : Bool) (column birth : ℕ) → cond (is && nat_lt birth (column + 1)) 1 0 + cond (is && nat_lt birth 0) 1 0
    ≡ cond (is && nat_le birth column) 1 0
before_is_by false column birth = refl
before_is_by true column birth = grind (arith, nat_tests)

-- So many columns have so many births together.
sum_before : (lines : ℕ) (holdings : List Holding) (births : List ℕ) → AreBirths lines holdings births
    → (column : ℕ) → column ≤ length births
    → sum (take column births) ≡ count_by (is_born_before lines column) holdings
sum_before lines holdings births each zero within =
    let none = counts_join (is_born_before lines 0) (is_born_before lines 0) (is_born_before lines 0)
    (λ (h : Holding). before_none (nat_lt h.since.position lines) (column_of lines h.since.position)) holdings in
    omega (arith, none)
sum_before lines holdings births each (suc column) within =
    let next : column + 1 ≡ suc column = omega arith in
    let more = counts_join (is_born_before lines column) (is_born_in lines column) (is_born_before lines (column + 1))
    (λ (h : Holding). before_more (nat_lt h.since.position lines) column (column_of lines h.since.position)) holdings in
    let to : sum (take (column + 1) births) ≡ count_by (is_born_before lines (column + 1)) holdings = omega (
      arith,
      more,
      sum_by_more (λ (n : ℕ). n) births column 0 (omega (arith, within)),
      sum_before lines holdings births each column (omega (arith, within)),
      each column (omega (arith, within)),
    ) in
    subst (λ (n : ℕ). sum (take n births) ≡ count_by (is_born_before lines n) holdings) next to

pub sum_by_column : (lines : ℕ) (holdings : List Holding) (births : List ℕ) → AreBirths lines holdings births
    → (column : ℕ) → column < length births
    → sum (take (column + 1) births) ≡ count_by (is_born_by lines column) holdings
sum_by_column lines holdings births each column within =
    let none = counts_join (is_born_before lines 0) (is_born_before lines 0) (is_born_before lines 0)
    (λ (h : Holding). before_none (nat_lt h.since.position lines) (column_of lines h.since.position)) holdings in
    let by = counts_join (is_born_before lines (column + 1)) (is_born_before lines 0) (is_born_by lines column)
    (λ (h : Holding). before_is_by (nat_lt h.since.position lines) column (column_of lines h.since.position)) holdings in
    omega (arith, none, by, sum_before lines holdings births each (column + 1) (omega (arith, within)))

pub births_are_few : (lines : ℕ) (holdings : List Holding) (births : List ℕ) → AreBirths lines holdings births
    → sum births ≤ length holdings
births_are_few lines holdings births each =
    let all : take (length births) births ≡ births = take_all (length births) births (omega arith) in
    omega (
      arith,
      ap (λ (l : List ℕ). sum l) all,
      sum_before lines holdings births each (length births) (omega arith),
      count_by-le-length (is_born_before lines (length births)) holdings,
    )

pub each_is_few : (lines : ℕ) (holdings : List Holding) (births : List ℕ) → AreBirths lines holdings births
    → (column other : ℕ) → column < length births → get_or births column other ≤ length holdings
each_is_few lines holdings births each column other within =
    let here : get_or births column other ≡ get_or births column 0 = get_or_default births column other 0 within in
    omega (arith, here, each column within, count_by-le-length (is_born_in lines column) holdings)

-- The sums of births are the loaders that stay.
pub sums_are_stays : (columns : ColumnsView) (holdings : List Holding) (births : List ℕ)
    → AreBirths columns.lines holdings births → length births ≡ length columns.columns
    → sums_of births ≡ stays_of columns holdings
sums_are_stays columns holdings births each count =
    same_lists (sums_of births) (stays_of columns holdings)
    (length-map-range_with_len (λ (last : ℕ). sum (take (last + 1) births)) 0 (length births) ∙ count
    ∙ sym (length-map-range_with_len (λ (column : ℕ). count_by (is_born_by columns.lines column) holdings) 0
    (length columns.columns)))
    (λ column other within.
    let here : column < length births =
    omega (
      arith,
      within,
      length-map-range_with_len (λ (last : ℕ). sum (take (last + 1) births)) 0 (length births),
    ) in
    get_or-map-range_with_len (λ (last : ℕ). sum (take (last + 1) births)) 0 (length births) column column other here
    (omega arith)
    ∙ sum_by_column columns.lines holdings births each column here
    ∙ sym (get_or-map-range_with_len (λ (c : ℕ). count_by (is_born_by columns.lines c) holdings) 0
    (length columns.columns) column column other (omega (arith, here, count)) (omega arith)))

-- The births with one loader more.
count_by_lies : (lies : Bool) (births : List ℕ) (at number : ℕ)
    → length (if lies then set births at number else births) ≡ length births
count_by_lies false births at number = refl
count_by_lies true births at number = length-set births at number

pub with_birth_count : (lines position : ℕ) (births : List ℕ) → length (with_birth lines position births) ≡ length births
with_birth_count lines position births =
    count_by_lies (nat_lt position lines) births (column_of lines position)
    (get_or births (column_of lines position) 0 + 1)

birth_in : (births : List ℕ) (at column : ℕ) → column < length births → (same : Bool) → (at == column) ≡ same
    → get_or (set births at (get_or births at 0 + 1)) column 0 ≡ get_or births column 0 + cond same 1 0
birth_in births at column within true same =
    let here : at ≡ column = eqb-true at column same in
    let put : get_or (set births at (get_or births at 0 + 1)) at 0 ≡ get_or births at 0 + 1 =
    get_or-set_same births at (get_or births at 0 + 1) 0 (omega (arith, within, here)) in
    ap (λ (c : ℕ). get_or (set births at (get_or births at 0 + 1)) c 0) (sym here) ∙ put
    ∙ ap (λ (c : ℕ). get_or births c 0 + 1) here
birth_in births at column within false same =
    let apart : column ≢ at = λ e. eqb-false at column same (sym e) in
    let kept : get_or (set births at (get_or births at 0 + 1)) column 0 ≡ get_or births column 0 =
    get_or-set_other births at column (get_or births at 0 + 1) 0 apart in
    omega (arith, kept)

birth_by : (lies : Bool) (births : List ℕ) (at column : ℕ)
    → column < length (if lies then set births at (get_or births at 0 + 1) else births)
    → get_or (if lies then set births at (get_or births at 0 + 1) else births) column 0
    ≡ get_or births column 0 + cond (lies && at == column) 1 0
birth_by false births at column within = omega arith
birth_by true births at column within =
    birth_in births at column (omega (arith, within, length-set births at (get_or births at 0 + 1))) (at == column) refl

births_push : (lines : ℕ) (holdings : List Holding) (births : List ℕ) (holding : Holding)
    → AreBirths lines holdings births
    → AreBirths lines (holdings ++ holding ∷ []) (with_birth lines holding.since.position births)
births_push lines holdings births holding each column within =
    let lies = nat_lt holding.since.position lines in
    let at = column_of lines holding.since.position in
    let one = birth_by lies births at column within in
    let here : column < length births = omega (arith, within, with_birth_count lines holding.since.position births) in
    omega (
      arith,
      one,
      each column here,
      sum_by_push (λ (h : Holding). cond (is_born_in lines column h) 1 0) holdings holding,
    )

pub births_more : (lines : ℕ) (holdings : List Holding) (births new : List ℕ) (at : ℕ) (other : Holding)
    → at < length holdings → new ≡ with_birth lines (get_or holdings at other).since.position births
    → AreBirths lines (take at holdings) births → AreBirths lines (take (at + 1) holdings) new
births_more lines holdings births new at other more is each =
    subst (λ (l : List ℕ). AreBirths lines (take (at + 1) holdings) l) (sym is)
    (subst (λ (l : List Holding). AreBirths lines l (with_birth lines (get_or holdings at other).since.position births))
    (sym (take_more holdings at other more))
    (births_push lines (take at holdings) births (get_or holdings at other) each))

-- Sums with one number more.
pub sums_more : (numbers sums new : List ℕ) (at : ℕ) → at < length numbers → sums ≡ sums_to numbers at
    → new ≡ sums ++ (sum (take at numbers) + get_or numbers at 0) ∷ [] → new ≡ sums_to numbers (at + 1)
sums_more numbers sums new at more so_far is =
    is
    ∙ ap (λ (l : List ℕ). l ++ (sum (take at numbers) + get_or numbers at 0) ∷ []) so_far
    ∙ ap (λ (n : ℕ). sums_to numbers at ++ n ∷ []) (sym (sum_by_more (λ (n : ℕ). n) numbers at 0 more))
    ∙ sym (map-range_with_len_more (λ (last : ℕ). sum (take (last + 1) numbers)) 0 at at (omega arith))

-- The sums of what was counted are the loaders that stay.
pub stays_from : (columns : ColumnsView) (holdings : List Holding) (births numbers : List ℕ) (lines count : ℕ)
    → lines ≡ columns.lines → numbers ≡ births → AreBirths lines holdings births
    → length births ≡ count → count ≡ length columns.columns → sums_of numbers ≡ stays_of columns holdings
stays_from columns holdings births numbers lines count same is each counted of =
    ap sums_of is
    ∙ sums_are_stays columns holdings births (subst (λ (n : ℕ). AreBirths n holdings births) same each) (counted ∙ of)
