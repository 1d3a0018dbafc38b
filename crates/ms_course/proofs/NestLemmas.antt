-- Amounts that nest: in a good machine, and in the columns of moments at which they do. `laws` uses
-- these.
use Rattle.std.proofs.Common.{◌+◌, ◌≤◌, ◌==◌, ℕ, Bool, true, false, List, [], ◌∷◌, ◌++◌, sym}
use Rattle.std.proofs.Common.{subst, arith}
use Rattle.std.specs.Prelude.{if◌then◌else◌}
use Rattle.std.specs.List.{All}
use Rattle.std.proofs.lemmas.List.Elements.{All-cons, All-head, All-nil, All-tail}
use Rattle.std.proofs.lemmas.Option.{get_or_from_slice_get}
use Rattle.ms_base.specs.declared.kind.Space.TheVariants.{NonClass, Class}
use Rattle.ms_base.specs.State.{Machine}
use Rattle.ms_base.specs.Good.{IsGood}
use Rattle.ms_base.proofs.granules.FrontSumLemmas.{sums_are_bounded}
use Rattle.ms_course.specs.declared.standing.Extent.{Extent}
use Rattle.ms_course.specs.declared.moment.Moment.{Moment}
use Rattle.ms_course.specs.declared.column.Column.{Column}
use Rattle.ms_course.specs.Course.{ColumnsView, Shows, column_in, column_of, falling, most, most_of, most_words}
use Rattle.ms_course.specs.Standing.{AreNested, IsNested, standing_of}

-- In a good machine they nest, as each space's do.
pub good_nests : (m : Machine) → IsGood m → AreNested (standing_of m)
good_nests m good =
    let its = sums_are_bounded NonClass m good in
    let class_its = sums_are_bounded Class m good in
    record {
      both = record {
        live = omega (arith, its.blocks, class_its.blocks);
        used = omega (arith, its.used, its.fronts, class_its.used, class_its.fronts);
        committed = omega (arith, its.committed, class_its.committed);
      };
      class_space = record {
        live = omega (arith, class_its.blocks);
        used = omega (arith, class_its.used, class_its.fronts);
        committed = class_its.committed;
      };
    }

-- The most of an amount that is never above another is not above its most.
most_below : (low high : Moment → ℕ) (moments : List Moment) → All (λ m. low m ≤ high m) moments
    → most low moments ≤ most high moments
most_below low high [] all = omega arith
most_below low high (first ∷ moments) all = omega (
  arith,
  All-head (λ m. low m ≤ high m) first moments all,
  most_below low high moments (All-tail (λ m. low m ≤ high m) first moments all),
)

-- What is true of all moments is true of those that fall into a column.
here_all : (P : Moment → Type 0) (falls : Bool) (first : Moment) (others : List Moment) → P first → All P others
    → All P ((if falls then first ∷ [] else []) ++ others)
here_all P true first others its all = All-cons P first others its all
here_all P false first others its all = all

falling_all : (P : Moment → Type 0) (lines column position : ℕ) (moments : List Moment) → All P moments
    → All P (falling lines column position moments)
falling_all P lines column position [] all = All-nil P
falling_all P lines column position (first ∷ moments) all =
    here_all P (column_of lines position == column) first (falling lines column (position + 1) moments)
    (All-head P first moments all)
    (falling_all P lines column (position + 1) moments (All-tail P first moments all))

extent_nests : (extent : Moment → Extent) (moments : List Moment) → All (λ m. IsNested (extent m)) moments
    → IsNested (most_words extent moments)
extent_nests extent moments all = record {
  live = most_below (λ m. (extent m).live) (λ m. (extent m).used) moments (λ k d within. (all k d within).live);
  used = most_below (λ m. (extent m).used) (λ m. (extent m).committed) moments (λ k d within. (all k d within).used);
  committed =
      most_below (λ m. (extent m).committed) (λ m. (extent m).reserved) moments
      (λ k d within. (all k d within).committed);
}

most_nests : (moments : List Moment) → All (λ (m : Moment). AreNested m.standing) moments → AreNested (most_of moments)
most_nests moments all = record {
  both = extent_nests (λ m. m.standing.both) moments (λ k d within. (all k d within).both);
  class_space = extent_nests (λ m. m.standing.class_space) moments (λ k d within. (all k d within).class_space);
}

-- So they nest in each column.
pub columns_nest : (view : ColumnsView) (moments : List Moment) → Shows view moments
    → All (λ (m : Moment). AreNested m.standing) moments → All (λ (c : Column). AreNested c.most) view.columns
columns_nest view moments shown all = λ k d within.
    subst (λ (c : Column). AreNested c.most)
    (sym (get_or_from_slice_get view.columns k (column_in (falling view.lines k 0 moments)) d
    (shown.each k (omega (arith, within, shown.count)))))
    (most_nests (falling view.lines k 0 moments)
    (falling_all (λ (m : Moment). AreNested m.standing) view.lines k 0 moments all))
