-- Round numbers: what lies between 1, 2, 5 and 10 of a power of ten. `in_decade` and `count_step` use
-- these.
use Rattle.std.proofs.Common.{◌≡◌, ◌<◌, ◌≤◌, ◌+◌, ◌*◌, ◌^◌, ◌⊎◌, ℕ, suc, inl, inr, refl, ap, arith, lit<}
use Rattle.std.proofs.Math.Nat.{pow-suc, pow-le-pow_right}
use Rattle.std.proofs.lemmas.Bool.{cases_lt}
use Rattle.std.proofs.lemmas.Grind.{div_ceil_times}
use Rattle.std.specs.Prelude.{max}
use Rattle.std.specs.Int.{div_ceil}
use Rattle.ms_page.specs.Axis.{IsCountStep, IsDecade, IsRound, steps}

-- How a power of ten stands to another.
abbrev Stands : ℕ → ℕ → Type 0
Stands power other = (10 * power ≤ other) ⊎ ((power ≡ other) ⊎ (10 * other ≤ power))

ten_more : (tens more : ℕ) → tens < more → 10 * 10 ^ tens ≤ 10 ^ more
ten_more tens more less =
    omega (arith, pow-suc 10 tens, pow-le-pow_right {n = 10} (lit< tt) {i = suc tens} {j = more} (omega arith))

stands : (tens others : ℕ) → Stands (10 ^ tens) (10 ^ others)
stands tens others = by_size (cases_lt tens others) (cases_lt others tens)
  where
    by_size : (tens < others) ⊎ (others ≤ tens) → (others < tens) ⊎ (tens ≤ others) → Stands (10 ^ tens) (10 ^ others)
    by_size (inl less) other = inl (ten_more tens others less)
    by_size (inr more) (inl less) = inr (inr (ten_more others tens less))
    by_size (inr more) (inr same) = let e : tens ≡ others = omega arith in inr (inl (ap (λ (t : ℕ). 10 ^ t) e))

some : (tens : ℕ) → 1 ≤ 10 ^ tens
some tens = pow-le-pow_right {n = 10} (lit< tt) {i = 0} {j = tens} (omega arith)

-- A round number is 1, 2 or 5 of a power of ten.
abbrev IsOf : ℕ → ℕ → Type 0
IsOf number power = (number ≡ power) ⊎ ((number ≡ 2 * power) ⊎ (number ≡ 5 * power))

is_of : (number leading power : ℕ) → (leading ≡ 1) ⊎ ((leading ≡ 2) ⊎ (leading ≡ 5)) → number ≡ leading * power
    → IsOf number power
is_of number leading power (inl one) is = inl (omega (arith, is, ap (λ (n : ℕ). n * power) one))
is_of number leading power (inr (inl two)) is = inr (inl (omega (arith, is, ap (λ (n : ℕ). n * power) two)))
is_of number leading power (inr (inr five)) is = inr (inr (omega (arith, is, ap (λ (n : ℕ). n * power) five)))

-- A round number that is less than 1, 2 or 5 of a power of ten is at most the next lower one.
half_below : (number power other : ℕ) → IsOf number power → Stands power other → 1 ≤ power → number < other
    → 2 * number ≤ other
half_below number power other is stand pos less = grind arith

one_below : (number power other : ℕ) → IsOf number power → Stands power other → 1 ≤ power → number < 2 * other
    → number ≤ other
one_below number power other is stand pos less = grind arith

two_below : (number power other : ℕ) → IsOf number power → Stands power other → 1 ≤ power → number < 5 * other
    → number ≤ 2 * other
two_below number power other is stand pos less = grind arith

is_some : (number power : ℕ) → IsOf number power → 1 ≤ power → 1 ≤ number
is_some number power is pos = grind arith

-- A step is the least where a lower round number is at most one of which five don't reach.
pub no_lower : (count step lower : ℕ) → (5 * lower < count) ⊎ (step ≡ 1)
    → ((other : ℕ) → IsRound other → other < step → other ≤ lower)
    → (other : ℕ) → IsRound other → count ≤ 5 * other → step ≤ other
no_lower count step lower few below other round five = by_size (cases_lt other step) few
  where
    by_size : (other < step) ⊎ (step ≤ other) → (5 * lower < count) ⊎ (step ≡ 1) → step ≤ other
    by_size (inr most) few = most
    by_size (inl less) (inl few) = absurd (omega (arith, below other round less, few, five))
    by_size (inl less) (inr one) =
        omega (
          arith,
          one,
          is_some other (10 ^ round.tens) (is_of other round.leading (10 ^ round.tens) round.one round.is) (some round.tens),
        )

-- The step of a count, by its decade.
pub first_step : (count decade : ℕ) → IsDecade count decade → count ≤ 5 * decade → IsCountStep count decade
first_step count decade its reaches = record {
  round = record { leading = 1; tens = its.power.0; one = inl refl; is = omega (arith, its.power.1) };
  reaches = reaches;
  least = least_half its.least;
}
  where
    below : (other : ℕ) → IsRound other → other < decade → 2 * other ≤ decade
    below other round less =
        omega (
          arith,
          its.power.1,
          half_below other (10 ^ round.tens) (10 ^ its.power.0)
              (is_of other round.leading (10 ^ round.tens) round.one round.is) (stands round.tens its.power.0)
              (some round.tens) (omega (arith, less, its.power.1)),
        )

    least_half : (decade ≡ 1) ⊎ (5 * decade < 2 * count)
        → (other : ℕ) → IsRound other → count ≤ 5 * other → decade ≤ other
    least_half (inl one) other round five = no_lower count decade 0 (inr one) (λ o r l. omega (arith, one, l)) other round five
    least_half (inr more) other round five =
        elim (cases_lt other decade) [
          | inl less ↦ absurd (omega (arith, below other round less, more, five))
          | inr most ↦ most
        ]

pub second_step : (count decade : ℕ) → IsDecade count decade → 5 * decade < count → count ≤ 10 * decade
    → IsCountStep count (2 * decade)
second_step count decade its more reaches = record {
  round = record { leading = 2; tens = its.power.0; one = inr (inl refl); is = omega (arith, its.power.1) };
  reaches = omega (arith, reaches);
  least = no_lower count (2 * decade) decade (inl more) below;
}
  where
    below : (other : ℕ) → IsRound other → other < 2 * decade → other ≤ decade
    below other round less =
        omega (
          arith,
          its.power.1,
          one_below other (10 ^ round.tens) (10 ^ its.power.0)
              (is_of other round.leading (10 ^ round.tens) round.one round.is) (stands round.tens its.power.0)
              (some round.tens) (omega (arith, less, its.power.1)),
        )

pub third_step : (count decade : ℕ) → IsDecade count decade → 10 * decade < count → IsCountStep count (5 * decade)
third_step count decade its more = record {
  round = record { leading = 5; tens = its.power.0; one = inr (inr refl); is = omega (arith, its.power.1) };
  reaches = omega (arith, its.reaches);
  least = no_lower count (5 * decade) (2 * decade) (inl (omega (arith, more))) below;
}
  where
    below : (other : ℕ) → IsRound other → other < 5 * decade → other ≤ 2 * decade
    below other round less =
        omega (
          arith,
          its.power.1,
          two_below other (10 ^ round.tens) (10 ^ its.power.0)
              (is_of other round.leading (10 ^ round.tens) round.one round.is) (stands round.tens its.power.0)
              (some round.tens) (omega (arith, less, its.power.1)),
        )

-- A step is some, and that of a number of 64 bits has 64 bits.
pub step_is_some : (count step : ℕ) → IsCountStep count step → 0 < step
step_is_some count step its =
    let round = its.round in
    is_some step (10 ^ round.tens) (is_of step round.leading (10 ^ round.tens) round.one round.is) (some round.tens)

pub step_is_small : (count step : ℕ) → IsCountStep count step → count < 2 ^ 64 → step ≤ 5 * 10 ^ 18
step_is_small count step its small =
    its.least (5 * 10 ^ 18) (record { leading = 5; tens = 18; one = inr (inr refl); is = refl }) (omega (arith, small))

-- The top of an axis is less than a step past the count.
top_of : (count step reached number : ℕ) → number ≡ max reached 1 → reached * step < count + step
    → (reached < 1) ⊎ (1 ≤ reached) → step * number ≤ count + step
top_of count step reached number is past (inl none) =
    let one : number ≡ 1 = omega (arith, is, none) in omega (arith, ap (λ (n : ℕ). step * n) one)
top_of count step reached number is past (inr some) =
    let same : number ≡ reached = omega (arith, is, some) in omega (arith, past, ap (λ (n : ℕ). step * n) same)

pub top_is_small : (count step number : ℕ) → IsCountStep count step → number ≡ steps count step → count ≤ 2 ^ 56
    → step * number < 2 ^ 58
top_is_small count step number its is few =
    let least : step ≤ 2 * 10 ^ 16 =
    its.least (2 * 10 ^ 16) (record { leading = 2; tens = 16; one = inr (inl refl); is = refl }) (omega (arith, few)) in
    let past : div_ceil count step * step < count + step =
    (div_ceil_times count step (step_is_some count step its)).1 in
    let top : step * number ≤ count + step =
    top_of count step (div_ceil count step) number is past (cases_lt (div_ceil count step) 1) in
    omega (arith, top, least, few)
