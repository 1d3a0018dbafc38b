-- Numbers of parts: which those of a level are, and that no two parts have one. For the set of free
-- leaves.
use Rattle.std.proofs.Common.{◌≡◌, ◌<◌, ◌≤◌, ℕ, ◌+◌, ◌-◌, ◌*◌, ◌/◌, ◌%◌, ◌^◌, refl, sym, ap, subst, ◌∙◌, inl, inr, arith}
use Rattle.std.proofs.lemmas.Bool.{cases_lt}
use Rattle.std.proofs.lemmas.Nat.{pow-add, div-add-mod', div_below, le-div}
use Rattle.std.proofs.Math.Nat.{div-div-eq-div-mul, mod-lt, mul-mod_left, div-eq_of_eq-mul_left, mul-le-mul_right, pow-le-pow_right, le_of_mul-le-mul_right}
use Rattle.ms_base.specs.declared.span.Span.{Span}
use Rattle.ms_base.specs.Level.{size_of, highest_level}
use Rattle.ms_base.proofs.free.HalvesLemmas.{size_falls}
use Rattle.ms_buddy.specs.Counts.{holder_of, number_of}
use Rattle.ms_buddy.specs.Leaves.{span_at}
use Rattle.ms_buddy.specs.Tree.{IsRootPart}
use Rattle.ms_buddy.proofs.TreeHalvesLemmas.{size_of-halves, size_of-some}

-- A root has so many words of each level's size.
row_words : (level : ℕ) → level ≤ highest_level → 2 ^ level * size_of level ≡ 524288
row_words level h = sym (pow-add 2 level (19 - level)) ∙ ap (λ (n : ℕ). 2 ^ n) (there level h)
  where
    there : (level : ℕ) → level ≤ highest_level → level + (19 - level) ≡ 19
    there level h = omega arith

pub words_at : (level : ℕ) → level ≤ highest_level → 524288 / 2 ^ level ≡ size_of level
words_at level h =
    div-eq_of_eq-mul_left (pow-le-pow_right {n = 2} (omega arith) {i = 0} {j = level} (omega arith))
    (omega (arith, row_words level h))

-- The part of a level that holds an offset lies in the root.
pub holder_fits : (level at : ℕ) → level ≤ highest_level → at < 524288
    → at - at % size_of level + size_of level ≤ 524288
holder_fits level at h below = omega (
  arith,
  div-add-mod' at (size_of level),
  row_words level h,
  mul-le-mul_right {m = at / size_of level + 1} {n = 2 ^ level} (size_of level)
      (next (div_below at (size_of level) (2 ^ level) (size_of-some level) (omega (arith, below, row_words level h)))),
)
  where
    next : {a b : ℕ} → a < b → a + 1 ≤ b
    next h = omega arith

pub holder_part : (level : ℕ) (part : Span) → level ≤ highest_level → part.start < 524288
    → IsRootPart level (holder_of level part).start
holder_part level part h below = record {
  level_fits = h;
  aligned =
      ap (λ (n : ℕ). n % size_of level) (multiple part.start (size_of level))
      ∙ mul-mod_left (part.start / size_of level) (size_of level);
  in_root = holder_fits level part.start h below;
}
  where
    multiple : (a w : ℕ) → a - a % w ≡ a / w * w
    multiple a w = omega (arith, div-add-mod' a w)

-- The code's words for the number.
pub number_is : (level start : ℕ) → (524288 + start) / 2 ^ (19 - level) ≡ number_of (span_at start level)
unfolding number_of
number_is level start = refl

pub number_fits : (level start : ℕ) → level ≤ highest_level → start < 524288
    → (524288 + start) / 2 ^ (19 - level) < 8192
number_fits level start h below =
    div_below (524288 + start) (size_of level) 8192 (size_of-some level)
    (omega (arith, below, size_falls level highest_level h))

-- The level below the one above is the level.
pub level_back : (level : ℕ) → 0 < level → level - 1 + 1 ≡ level
level_back level some = omega (arith, some)

twice_size : (level : ℕ) → 0 < level → level ≤ highest_level → size_of level * 2 ≡ size_of (level - 1)
twice_size level some h = omega (
  arith,
  size_of-halves (level - 1) (omega (arith, some, h)),
  ap size_of (level_back level some),
)

-- The part of the level above that starts there has half the number, and the root has 1.
pub number_above : (level at : ℕ) → 0 < level → level ≤ highest_level
    → number_of (span_at at level) / 2 ≡ number_of (span_at at (level - 1))
unfolding number_of
number_above level at some h =
    div-div-eq-div-mul (524288 + at) (size_of level) 2 ∙ ap (λ (n : ℕ). (524288 + at) / n) (twice_size level some h)

pub number_of-root : (at : ℕ) → at < 524288 → number_of (span_at at 0) ≡ 1
unfolding number_of
number_of-root at h = omega (arith, h)

pub number_of-small : (level at : ℕ) → level ≤ highest_level → at < 524288 → number_of (span_at at level) < 8192
number_of-small level at h below = rw (← number_is level at) (number_fits level at h below)

-- What holds of the levels past one, and of it, holds of those past the one above.
pub and_above : (P : ℕ → Type 0) (level most : ℕ) → P level
    → ((other : ℕ) → level < other → other ≤ most → P other)
    → (other : ℕ) → level - 1 < other → other ≤ most → P other
and_above P level most here past other above low = elim (cases_lt level other) [
  | inl more ↦ past other more low
  | inr same ↦ subst P (omega (arith, same, above)) here
]

-- A part's number times its size is where it starts, past the words of a root.
pub number_words : (level start : ℕ) → IsRootPart level start
    → number_of (span_at start level) * size_of level ≡ 524288 + start
unfolding number_of
number_words level start of_root =
    ap (λ (n : ℕ). n * size_of level) (div-eq_of_eq-mul_left (size_of-some level) parts) ∙ sym parts
  where
    parts : 524288 + start ≡ (2 ^ level + start / size_of level) * size_of level
    parts = omega (arith, row_words level of_root.level_fits, div-add-mod' start (size_of level), of_root.aligned)

-- The numbers of a level stand in a row, from a power of two up to the next one.
pub number_from : (level start : ℕ) → IsRootPart level start → 2 ^ level ≤ number_of (span_at start level)
number_from level start of_root =
    le_of_mul-le-mul_right (omega (arith, row_words level of_root.level_fits, number_words level start of_root))
    (size_of-some level)

pub number_below : (level start : ℕ) → IsRootPart level start → number_of (span_at start level) < 2 * 2 ^ level
number_below level start of_root = elim (cases_lt (number_of (span_at start level)) (2 * 2 ^ level)) [
  | inl below ↦ below
  | inr past ↦ absurd (omega (
    arith,
    mul-le-mul_right (size_of level) past,
    row_words level of_root.level_fits,
    number_words level start of_root,
    of_root.in_root,
    size_of-some level,
  ))
]

twice : (level : ℕ) → 2 ^ (level + 1) ≡ 2 * 2 ^ level
twice level = pow-add 2 level 1 ∙ omega arith

-- A number that is in the row of a level is that of a part of the level.
pub level_of_row : (level start other : ℕ) → IsRootPart level start → 2 ^ other ≤ number_of (span_at start level)
    → number_of (span_at start level) < 2 * 2 ^ other → level ≡ other
level_of_row level start other of_root from below = elim (cases_lt level other) [
  | inl less ↦ absurd (omega (
    arith,
    number_below level start of_root,
    from,
    twice level,
    pow-le-pow_right {n = 2} (omega arith) {i = level + 1} {j = other} (omega arith),
  ))
  | inr more ↦ elim (cases_lt other level) [
    | inl less ↦ absurd (omega (
      arith,
      number_from level start of_root,
      below,
      twice other,
      pow-le-pow_right {n = 2} (omega arith) {i = other + 1} {j = level} (omega arith),
    ))
    | inr same ↦ omega arith
  ]
]

-- Parts with one number are one.
pub same_number : (part other : Span) → IsRootPart part.level part.start → IsRootPart other.level other.start
    → number_of part ≡ number_of other → (part.level ≡ other.level) × (part.start ≡ other.start)
same_number part other of_root there e =
    let level : part.level ≡ other.level =
    level_of_row part.level part.start other.level of_root
    (omega (arith, e, number_from other.level other.start there))
    (omega (arith, e, number_below other.level other.start there)) in (
      level,
      omega (
        arith,
        number_words part.level part.start of_root,
        number_words other.level other.start there,
        ap (λ (n : ℕ). number_of part * size_of n) level,
        ap (λ (n : ℕ). n * size_of other.level) e,
      ),
    )

-- The first number of the parts of a level that start at an offset or past it.
pub first_is_low : (level from start : ℕ) → IsRootPart level start → from ≤ start
    → (524288 + from + (size_of level - 1)) / size_of level ≤ number_of (span_at start level)
first_is_low level from start of_root h =
    less (div_below (524288 + from + (size_of level - 1)) (size_of level) (number_of (span_at start level) + 1)
    (size_of-some level) (omega (arith, number_words level start of_root, size_of-some level, h)))
  where
    less : {a b : ℕ} → a < b + 1 → a ≤ b
    less h = omega arith

pub first_is_past : (level from start : ℕ) → IsRootPart level start
    → (524288 + from + (size_of level - 1)) / size_of level ≤ number_of (span_at start level) → from ≤ start
first_is_past level from start of_root h = omega (
  arith,
  mul-le-mul_right (size_of level) h,
  number_words level start of_root,
  div-add-mod' (524288 + from + (size_of level - 1)) (size_of level),
  mod-lt (524288 + from + (size_of level - 1)) (size_of-some level),
  size_of-some level,
)

pub first_in_row : (level from : ℕ) → level ≤ highest_level
    → 2 ^ level ≤ (524288 + from + (size_of level - 1)) / size_of level
first_in_row level from h =
    le-div (2 ^ level) (524288 + from + (size_of level - 1)) (size_of level) (size_of-some level)
    (omega (arith, row_words level h))

-- A number of a row times the level's size lies between the words of a root and twice these.
pub row_low : (level number : ℕ) → level ≤ highest_level → 2 ^ level ≤ number → 524288 ≤ number * size_of level
row_low level number h from = omega (arith, mul-le-mul_right (size_of level) from, row_words level h)

pub row_high : (level number : ℕ) → level ≤ highest_level → number < 2 * 2 ^ level
    → number * size_of level < 1048576
row_high level number h below = omega (
  arith,
  mul-le-mul_right {m = number + 1} {n = 2 * 2 ^ level} (size_of level) (omega (arith, below)),
  row_words level h,
  size_of-some level,
)

-- The numbers of each level end where the bits do, or before.
pub row_end : (level : ℕ) → level ≤ highest_level → 2 * 2 ^ level ≤ 8192
row_end level h = omega (arith, pow-le-pow_right {n = 2} (omega arith) {i = level} {j = 12} h)

pub row_end_fits : (level : ℕ) → level ≤ highest_level → 2 * 2 ^ level % 2 ^ 64 ≡ 2 * 2 ^ level
row_end_fits level h = omega (arith, row_end level h)
