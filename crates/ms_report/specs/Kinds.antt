-- How much the loaders of each kind hold: the part Kinds of a full report (after HotSpot's
-- VM.metaspace, with this project's numbers).
use Rattle.std.specs.Prelude.{ℕ, ◌+◌, ◌*◌, ◌≤◌, ◌^◌, Bool, true, false, List, [], ◌∷◌, ◌++◌, length, codes}
use Rattle.std.specs.List.{filter, sum_by}
use Rattle.std.specs.Fmt.{decimal}
use Rattle.ms_base.specs.declared.kind.Kind.{Kind}
use Rattle.ms_base.specs.declared.kind.Kind.TheVariants.{Standard, Boot, Reflection, Hidden}
use Rattle.ms_answers.specs.Details.{ArenaSums, LoaderSums}
use Rattle.ms_report.specs.declared.kinds.KindTotals.{KindTotals}
use Rattle.ms_report.specs.declared.kinds.Kinds.{Kinds}
use Rattle.ms_report.specs.Layout.{Table, table_line, header, kind_text}

-- Two kinds are the same.
abbrev pub same_kind : Kind → Kind → Bool
same_kind Standard Standard = true
same_kind Boot Boot = true
same_kind Reflection Reflection = true
same_kind Hidden Hidden = true
same_kind _ _ = false

-- A loader is of a kind.
abbrev pub is_of : Kind → LoaderSums → Bool
is_of kind loader = same_kind kind loader.kind

-- An amount of a loader, over both its arenas.
abbrev pub in_both : (ArenaSums → ℕ) → LoaderSums → ℕ
in_both amount loader = amount loader.space + amount loader.class_space

-- The sums over loaders.
abbrev pub sums_over : List LoaderSums → KindTotals
sums_over loaders = record {
  loaders = length loaders;
  chunks = sum_by (in_both (λ arena. arena.chunks)) loaders;
  capacity = sum_by (in_both (λ arena. arena.capacity)) loaders;
  fronts = sum_by (in_both (λ arena. arena.fronts)) loaders;
  used = sum_by (in_both (λ arena. arena.used)) loaders;
  live = sum_by (in_both (λ arena. arena.live)) loaders;
  free_blocks = sum_by (in_both (λ arena. arena.free_blocks)) loaders;
  waste = sum_by (in_both (λ arena. arena.waste)) loaders;
}

-- Those of each kind.
abbrev pub kinds_of : List LoaderSums → Kinds
kinds_of loaders = record {
  boot = sums_over (filter (is_of Boot) loaders);
  standard = sums_over (filter (is_of Standard) loaders);
  hidden = sums_over (filter (is_of Hidden) loaders);
  reflection = sums_over (filter (is_of Reflection) loaders);
}

-- The sums with one more loader.
abbrev pub with_loader : KindTotals → LoaderSums → KindTotals
with_loader totals loader = record {
  loaders = totals.loaders + 1;
  chunks = totals.chunks + in_both (λ arena. arena.chunks) loader;
  capacity = totals.capacity + in_both (λ arena. arena.capacity) loader;
  fronts = totals.fronts + in_both (λ arena. arena.fronts) loader;
  used = totals.used + in_both (λ arena. arena.used) loader;
  live = totals.live + in_both (λ arena. arena.live) loader;
  free_blocks = totals.free_blocks + in_both (λ arena. arena.free_blocks) loader;
  waste = totals.waste + in_both (λ arena. arena.waste) loader;
}

-- No more than so many loaders can have, of which each has two amounts of 64 bits.
pub record IsBelow (count : ℕ) (totals : KindTotals) : Type 0 where
  pub loaders : totals.loaders ≤ count
  pub chunks : totals.chunks ≤ count * 2 ^ 65
  pub capacity : totals.capacity ≤ count * 2 ^ 65
  pub fronts : totals.fronts ≤ count * 2 ^ 65
  pub used : totals.used ≤ count * 2 ^ 65
  pub live : totals.live ≤ count * 2 ^ 65
  pub free_blocks : totals.free_blocks ≤ count * 2 ^ 65
  pub waste : totals.waste ≤ count * 2 ^ 65

-- The columns of chunks and words, which end a line.
abbrev pub sum_columns : Table
sum_columns =
    (codes "chunks", 8)
    ∷ (codes "capacity", 10)
    ∷ (codes "fronts", 10)
    ∷ (codes "used", 10)
    ∷ (codes "live", 10)
    ∷ (codes "free blocks", 13)
    ∷ (codes "waste", 10)
    ∷ []

-- The table of kinds, and the line of a kind.
abbrev pub kind_table : Table
kind_table = (codes "kind", 12) ∷ (codes "loaders", 9) ∷ sum_columns

abbrev pub sum_texts : KindTotals → List (List ℕ)
sum_texts totals =
    decimal totals.chunks
    ∷ decimal totals.capacity
    ∷ decimal totals.fronts
    ∷ decimal totals.used
    ∷ decimal totals.live
    ∷ decimal totals.free_blocks
    ∷ decimal totals.waste
    ∷ []

abbrev pub kind_line : Kind → KindTotals → List ℕ
kind_line kind totals = table_line kind_table (kind_text kind ∷ decimal totals.loaders ∷ sum_texts totals)

-- A line for each kind.
abbrev pub kind_lines : Kinds → List ℕ
kind_lines kinds =
    kind_line Boot kinds.boot
    ++ kind_line Standard kinds.standard
    ++ kind_line Hidden kinds.hidden
    ++ kind_line Reflection kinds.reflection

-- They follow their headings.
abbrev pub kinds_part : List LoaderSums → List ℕ
kinds_part loaders = codes "Kinds\n" ++ header kind_table ++ kind_lines (kinds_of loaders)
