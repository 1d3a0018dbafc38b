-- Lengths of padded texts and of lines made of them. Used by `laws` and `layout`.
use Rattle.std.proofs.Common.{◌≡◌, ◌≤◌, ◌<◌, ℕ, ◌+◌, ◌-◌, ◌^◌, List, [], ◌∷◌, ◌++◌, length, replicate}
use Rattle.std.proofs.Common.{refl, arith, length-append, suc, zero, ap, min, drop, ◌∙◌}
use Rattle.std.specs.Fmt.{decimal}
use Rattle.std.proofs.lemmas.List.{length-replicate, drop-replicate}
use Rattle.std.proofs.Math.Nat.{pow-le-pow_right}
use Rattle.std.proofs.lemmas.Fmt.{length-decimal-le}
use Rattle.ms_base.specs.Level.{size_of}
use Rattle.ms_base.specs.Totals.{LoaderRow}
use Rattle.ms_report.specs.Layout.{left_in, right_in, number_line, Table, cells, table_line, level_table, level_texts}
use Rattle.ms_report.specs.Layout.{loader_table, loader_texts, kind_text}
use Rattle.ms_base.proofs.free.HalvesLemmas.{size_falls}
use Rattle.ms_base.specs.declared.kind.Kind.{Kind}
use Rattle.ms_base.specs.declared.kind.Kind.TheVariants.{Standard, Boot, Reflection, Hidden}
use Rattle.ms_base.specs.declared.kind.Space.{Space}
use Rattle.ms_base.specs.declared.kind.Space.TheVariants.{NonClass, Class}
use Rattle.ms_answers.specs.Details.{ArenaSums, LoaderSums}
use Rattle.ms_report.specs.declared.kinds.KindTotals.{KindTotals}
use Rattle.ms_report.specs.Kinds.{sum_columns, kind_table, kind_line, sum_texts}
use Rattle.ms_report.specs.Holdings.{holding_table, holding_line, arena_texts, space_text}
use Rattle.ms_report.specs.LayoutLaws.{IsWithin, IsKindWithin, IsArenaWithin}

left_fits : (width : ℕ) (text : List ℕ) → length text ≤ width → length (left_in width text) ≡ width
left_fits width text fits =
    omega (
      arith,
      length-append text (replicate (width - length text) 32),
      length-replicate {A = ℕ} (width - length text) 32,
      fits,
    )

right_fits : (width : ℕ) (text : List ℕ) → length text ≤ width → length (right_in width text) ≡ width
right_fits width text fits =
    omega (
      arith,
      length-append (replicate (width - length text) 32) text,
      length-replicate {A = ℕ} (width - length text) 32,
      fits,
    )

pub number_line_length : (label : List ℕ) (number : ℕ) → length label ≤ 12 → number < 10 ^ 12
    → length (number_line label number) ≡ 27
number_line_length label number short small =
    let digits : length (decimal number) ≤ 12 =
    length-decimal-le 12 number (omega arith) small (omega (arith, small)) in
    omega (
      arith,
      left_fits 12 label short,
      right_fits 12 (decimal number) digits,
      length-append (left_in 12 label) (right_in 12 (decimal number)),
      length-append (left_in 12 label ++ right_in 12 (decimal number)) (10 ∷ []),
    )

-- Each text fits its column.
abbrev FitIn : Table → List (List ℕ) → Type 0
FitIn [] [] = Unit {0}
FitIn (column ∷ columns) (text ∷ texts) = (length text ≤ column.1) × FitIn columns texts
FitIn _ _ = ⊥

-- The width of all columns.
abbrev width_of : Table → ℕ
width_of [] = 0
width_of (column ∷ columns) = column.1 + width_of columns

cells_length : (table : Table) (texts : List (List ℕ)) → FitIn table texts
    → length (cells table texts) ≡ width_of table
cells_length [] [] fit = refl
cells_length [] (text ∷ texts) fit = absurd fit
cells_length (column ∷ columns) [] fit = absurd fit
cells_length (column ∷ columns) (text ∷ texts) fit =
    omega (
      arith,
      right_fits column.1 text fit.0,
      length-append (right_in column.1 text) (cells columns texts),
      cells_length columns texts fit.1,
    )

line_length : (table : Table) (texts : List (List ℕ)) → FitIn table texts
    → length (table_line table texts) ≡ width_of table + 3
line_length table texts fit = omega (arith, length-append (cells table texts) (10 ∷ []), cells_length table texts fit)

pub level_line_length : (level held free : ℕ) → level ≤ 12 → held ≤ 655360 → free ≤ 655360
    → length (table_line level_table (level_texts level held free)) ≡ 32
level_line_length level held free low few some =
    let words : size_of level ≤ 524288 = size_falls 0 level (omega arith) in
    line_length level_table (level_texts level held free) (
      length-decimal-le 5 level (omega arith) (omega (arith, low)) (omega (arith, low)),
      (
        length-decimal-le 8 (size_of level) (omega arith) (omega (arith, words)) (omega (arith, words)),
        (
          length-decimal-le 8 held (omega arith) (omega (arith, few)) (omega (arith, few)),
          (
            length-decimal-le 8 free (omega arith) (omega (arith, some)) (omega (arith, some)),
            tt,
          ),
        ),
      ),
    )

kind_fits : (kind : Kind) → length (kind_text kind) ≤ 12
kind_fits Standard = omega arith
kind_fits Boot = omega arith
kind_fits Reflection = omega arith
kind_fits Hidden = omega arith

pub loader_line_length : (row : LoaderRow) → IsWithin row → length (table_line loader_table (loader_texts row)) ≡ 58
loader_line_length row within =
    line_length loader_table (loader_texts row) (
      length-decimal-le 5 row.name (omega arith) (omega (arith, within.name)) (omega (arith, within.name)),
      (
        kind_fits row.kind,
        (
          length-decimal-le 8 row.chunks (omega arith) (omega (arith, within.chunks)) (omega (arith, within.chunks)),
          (
            length-decimal-le 10 row.capacity (omega arith) (omega (arith, within.capacity))
                (omega (arith, within.capacity)),
            (
              length-decimal-le 10 row.used (omega arith) (omega (arith, within.used)) (omega (arith, within.used)),
              (
                length-decimal-le 10 row.live (omega arith) (omega (arith, within.live)) (omega (arith, within.live)),
                tt,
              ),
            ),
          ),
        ),
      ),
    )

-- The columns of chunks and words, which end the lines of kinds and of what loaders hold.
words_fit : (words : ℕ) → words ≤ 83886080 → length (decimal words) ≤ 10
words_fit words few = length-decimal-le 10 words (omega arith) (omega (arith, few)) (omega (arith, few))

sums_fit : (chunks capacity fronts used live free_blocks waste : ℕ) → chunks ≤ 655360 → capacity ≤ 83886080
    → fronts ≤ 83886080 → used ≤ 83886080 → live ≤ 83886080 → free_blocks ≤ 83886080 → waste ≤ 83886080
    → FitIn sum_columns (decimal chunks ∷ decimal capacity ∷ decimal fronts ∷ decimal used ∷ decimal live
    ∷ decimal free_blocks ∷ decimal waste ∷ [])
sums_fit chunks capacity fronts used live free_blocks waste few c f u l k w =
    let kept : length (decimal free_blocks) ≤ 13 = omega (arith, words_fit free_blocks k) in (
      length-decimal-le 8 chunks (omega arith) (omega (arith, few)) (omega (arith, few)),
      (
        words_fit capacity c,
        (words_fit fronts f, (words_fit used u, (words_fit live l, (kept, (words_fit waste w, tt))))),
      ),
    )

pub kind_line_length : (kind : Kind) (totals : KindTotals) → IsKindWithin totals → length (kind_line kind totals) ≡ 95
kind_line_length kind totals its =
    line_length kind_table (kind_text kind ∷ decimal totals.loaders ∷ sum_texts totals) (
      kind_fits kind,
      (
        length-decimal-le 9 totals.loaders (omega arith) (omega (arith, its.loaders)) (omega (arith, its.loaders)),
        sums_fit totals.chunks totals.capacity totals.fronts totals.used totals.live totals.free_blocks totals.waste
            its.chunks its.capacity its.fronts its.used its.live its.free_blocks its.waste,
      ),
    )

space_fits : (space : Space) → length (space_text space) ≤ 11
space_fits NonClass = omega arith
space_fits Class = omega arith

pub holding_line_length : (loader : LoaderSums) (space : Space) (arena : ArenaSums) → loader.name ≤ 65535
    → IsArenaWithin arena → length (holding_line loader space arena) ≡ 102
holding_line_length loader space arena low its =
    line_length holding_table (decimal loader.name ∷ kind_text loader.kind ∷ space_text space ∷ arena_texts arena) (
      length-decimal-le 5 loader.name (omega arith) (omega (arith, low)) (omega (arith, low)),
      (
        kind_fits loader.kind,
        (
          space_fits space,
          sums_fit arena.chunks arena.capacity arena.fronts arena.used arena.live arena.free_blocks arena.waste
              its.chunks its.capacity its.fronts its.used its.live its.free_blocks its.waste,
        ),
      ),
    )

-- A text that is shorter than its column has a space before it.
before_short : (width : ℕ) (text : List ℕ) → length text < width
    → (rest : List ℕ) × (right_in width text ≡ 32 ∷ rest)
before_short width text short = spaces (width - length text) (omega (arith, short))
  where
    spaces : (count : ℕ) → 0 < count → (rest : List ℕ) × (replicate count 32 ++ text ≡ 32 ∷ rest)
    spaces zero some = absurd (omega (arith, some))
    spaces (suc count) some = (replicate count 32 ++ text, refl)

pub digits_stand_apart : (width number : ℕ) → 0 < width → width ≤ 18 → number < 10 ^ width
    → (rest : List ℕ) × (right_in (width + 1) (decimal number) ≡ 32 ∷ rest)
digits_stand_apart width number some few below =
    let small : number < 2 ^ 64 = let most = pow-le-pow_right {n = 10} (omega arith) few in
    omega (arith, below, most) in
    before_short (width + 1) (decimal number) (omega (arith, length-decimal-le width number some below small))

-- What is left of a column of spaces after a label.
pub spaces_after : (count at : ℕ) → at ≡ min count 12
    → drop {A = ℕ} at (replicate 12 32) ≡ replicate (12 - count) 32
spaces_after count at is =
    drop-replicate at 12 32 ∙ ap (λ (many : ℕ). replicate many 32) (omega (arith, is))
