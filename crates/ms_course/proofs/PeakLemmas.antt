-- The most of amounts: over moments, and over those that fall into a column. `laws` uses these.
use Rattle.std.proofs.Common.{◌≡◌, ◌≢◌, ◌+◌, ◌<◌, ◌≤◌, ◌==◌, ◌⊎◌, inl, inr, ℕ, Bool, true, false, List, [], ◌∷◌, ◌++◌}
use Rattle.std.proofs.Common.{length, refl, sym, subst, arith, eq-eqb}
use Rattle.std.specs.Prelude.{max, if◌then◌else◌}
use Rattle.std.specs.List.{All, Contains}
use Rattle.std.proofs.lemmas.Bool.{cases_lt}
use Rattle.std.proofs.lemmas.List.Elements.{All-cons, All-nil, Contains-append_left, Contains-append_right, Contains-push}
use Rattle.ms_course.specs.declared.moment.Moment.{Moment}
use Rattle.ms_course.specs.Course.{column_count, column_of, falling, most}
use Rattle.ms_course.specs.Laws.{HasPeak, IsMost}

-- No moment has more than the most.
most_not_passed : (amount : Moment → ℕ) (moments : List Moment)
    → All (λ moment. amount moment ≤ most amount moments) moments
most_not_passed amount [] = All-nil (λ moment. amount moment ≤ 0)
most_not_passed amount (first ∷ moments) =
    All-cons (λ moment. amount moment ≤ most amount (first ∷ moments)) first moments (omega arith)
    (λ k d within. omega (arith, most_not_passed amount moments k d within))

-- And one of them has it.
abbrev Reached : (Moment → ℕ) → List Moment → Type 0
Reached amount moments = (moment : Moment) × Contains moments moment × (amount moment ≡ most amount moments)

greater_reached : (amount : Moment → ℕ) (first : Moment) (moments : List Moment) → Reached amount moments
    → (amount first < most amount moments) ⊎ (most amount moments ≤ amount first) → Reached amount (first ∷ moments)
greater_reached amount first moments later (inl less) =
    (later.0, Contains-append_right (first ∷ []) moments later.0 later.1, omega (arith, later.2, less))
greater_reached amount first moments later (inr more) =
    (first, Contains-append_left (first ∷ []) moments first (Contains-push [] first), omega (arith, more))

most_reached : (amount : Moment → ℕ) (first : Moment) (moments : List Moment) → Reached amount (first ∷ moments)
most_reached amount first [] = (first, Contains-push [] first, omega arith)
most_reached amount first (next ∷ moments) =
    greater_reached amount first (next ∷ moments) (most_reached amount next moments)
    (cases_lt (amount first) (most amount (next ∷ moments)))

pub is_most : (amount : Moment → ℕ) (moments : List Moment) → moments ≢ [] → IsMost amount moments (most amount moments)
is_most amount [] some = absurd (some refl)
is_most amount (first ∷ moments) some =
    record { reached = most_reached amount first moments; not_passed = most_not_passed amount (first ∷ moments) }

-- Whether the first moment falls into a column or not, the column has no more than all.
here_most : (amount : Moment → ℕ) (falls : Bool) (first : Moment) (others : List Moment)
    → most amount ((if falls then first ∷ [] else []) ++ others) ≤ max (amount first) (most amount others)
here_most amount true first others = omega arith
here_most amount false first others = omega arith

least_most : (amount : Moment → ℕ) (falls : Bool) (first : Moment) (others : List Moment)
    → most amount others ≤ most amount ((if falls then first ∷ [] else []) ++ others)
least_most amount true first others = omega arith
least_most amount false first others = omega arith

falling_most : (amount : Moment → ℕ) (lines column position : ℕ) (moments : List Moment)
    → most amount (falling lines column position moments) ≤ most amount moments
falling_most amount lines column position [] = omega arith
falling_most amount lines column position (first ∷ moments) = omega (
  arith,
  here_most amount (column_of lines position == column) first (falling lines column (position + 1) moments),
  falling_most amount lines column (position + 1) moments,
)

-- A position of these moments whose column has as much as all of them.
record Reaches (amount : Moment → ℕ) (lines position : ℕ) (moments : List Moment) : Type 0 where
  at : ℕ
  from : position ≤ at
  below : at < position + length moments
  has : most amount moments ≤ most amount (falling lines (column_of lines at) position moments)

first_reaches : (amount : Moment → ℕ) (lines position : ℕ) (first : Moment) (moments : List Moment)
    → most amount moments ≤ amount first → Reaches amount lines position (first ∷ moments)
first_reaches amount lines position first moments more = record {
  at = position;
  from = omega arith;
  below = omega arith;
  has =
      subst (λ (b : Bool). max (amount first) (most amount moments)
      ≤ most amount ((if b then first ∷ [] else []) ++ falling lines (column_of lines position) (position + 1) moments))
      (sym (eq-eqb (column_of lines position) (column_of lines position) refl)) (omega (arith, more));
}

later_reaches : (amount : Moment → ℕ) (lines position : ℕ) (first : Moment) (moments : List Moment)
    → Reaches amount lines (position + 1) moments → amount first < most amount moments
    → Reaches amount lines position (first ∷ moments)
later_reaches amount lines position first moments later less = record {
  at = later.at;
  from = omega (arith, later.from);
  below = omega (arith, later.below);
  has = omega (
    arith,
    less,
    later.has,
    least_most amount (column_of lines position == column_of lines later.at) first
        (falling lines (column_of lines later.at) (position + 1) moments),
  );
}

reaches : (amount : Moment → ℕ) (lines position : ℕ) (first : Moment) (moments : List Moment)
    → Reaches amount lines position (first ∷ moments)
reaches amount lines position first [] = first_reaches amount lines position first [] (omega arith)
reaches amount lines position first (next ∷ moments) =
    let later = reaches amount lines (position + 1) next moments in
    by_size (cases_lt (amount first) (most amount (next ∷ moments))) later
  where
    by_size : (amount first < most amount (next ∷ moments)) ⊎ (most amount (next ∷ moments) ≤ amount first)
        → Reaches amount lines (position + 1) (next ∷ moments) → Reaches amount lines position (first ∷ next ∷ moments)
    by_size (inl less) later = later_reaches amount lines position first (next ∷ moments) later less
    by_size (inr more) later = first_reaches amount lines position first (next ∷ moments) more

pub has_peak : (amount : Moment → ℕ) (lines : ℕ) (moments : List Moment)
    → ((position : ℕ) → position < lines → column_of lines position < column_count lines) → moments ≢ []
    → length moments ≤ lines → HasPeak amount lines moments
has_peak amount lines [] falls some few = absurd (some refl)
has_peak amount lines (first ∷ moments) falls some few =
    let found = reaches amount lines 0 first moments in
    record {
      column = column_of lines found.at;
      within = falls found.at (omega (arith, found.below, few));
      reached = omega (arith, found.has, falling_most amount lines (column_of lines found.at) 0 (first ∷ moments));
      not_passed = λ other. falling_most amount lines other 0 (first ∷ moments);
    }
