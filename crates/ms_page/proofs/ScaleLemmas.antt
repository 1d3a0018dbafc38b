-- Lengths and steps, rounded up. `laws` uses these.
use Rattle.std.proofs.Common.{◌≡◌, ◌+◌, ◌*◌, ◌<◌, ◌≤◌, ◌==◌, ◌⊎◌, inl, inr, ℕ, Bool, true, false, refl, arith}
use Rattle.std.specs.Prelude.{min, if◌then◌else◌}
use Rattle.std.specs.Int.{div_ceil}
use Rattle.std.proofs.lemmas.Bool.{cases_lt, eqb-false}
use Rattle.std.proofs.lemmas.Grind.{div_ceil_times}
use Rattle.std.proofs.Math.Nat.{mul-le-mul_right}
use Rattle.ms_course.specs.declared.standing.Extent.{Extent}
use Rattle.ms_course.specs.Standing.{IsNested}
use Rattle.ms_page.specs.Axis.{steps}
use Rattle.ms_page.specs.Scale.{scaled}

-- What is more is no less, rounded up.
ceil_rises : (less more whole : ℕ) → 0 < whole → less ≤ more → div_ceil less whole ≤ div_ceil more whole
ceil_rises less more whole some order = by_size (cases_lt (div_ceil more whole) (div_ceil less whole))
  where
    by_size : (div_ceil more whole < div_ceil less whole) ⊎ (div_ceil less whole ≤ div_ceil more whole)
        → div_ceil less whole ≤ div_ceil more whole
    by_size (inr order) = order
    by_size (inl wrong) = absurd (omega (
      arith,
      order,
      (div_ceil_times less whole some).1,
      (div_ceil_times more whole some).0,
      mul-le-mul_right {m = div_ceil more whole + 1} {n = div_ceil less whole} whole (omega (arith, wrong)),
    ))

-- Whether there is a whole or not.
scaled_rises : (none : Bool) (less more whole length : ℕ) → (none ≡ false → 0 < whole) → less ≤ more
    → (if none then 0 else min (div_ceil (less * length) whole) length)
    ≤ (if none then 0 else min (div_ceil (more * length) whole) length)
scaled_rises true less more whole length some order = omega arith
scaled_rises false less more whole length some order = omega (
  arith,
  ceil_rises (less * length) (more * length) whole (some refl) (mul-le-mul_right {m = less} {n = more} length order),
)

pub more_is_no_shorter : (less more whole length : ℕ) → less ≤ more
    → scaled less whole length ≤ scaled more whole length
more_is_no_shorter less more whole length order =
    scaled_rises (whole == 0) less more whole length (λ e. omega (arith, eqb-false whole 0 e)) order

pub areas_nest : (extent : Extent) (top height : ℕ) → IsNested extent
    → (scaled extent.live top height ≤ scaled extent.used top height)
    × (scaled extent.used top height ≤ scaled extent.committed top height)
    × (scaled extent.committed top height ≤ scaled extent.reserved top height)
areas_nest extent top height its = (
  more_is_no_shorter extent.live extent.used top height its.live,
  more_is_no_shorter extent.used extent.committed top height its.used,
  more_is_no_shorter extent.committed extent.reserved top height its.committed,
)

-- Five steps that reach a number are enough.
pub steps_are_few : (number step : ℕ) → 0 < step → number ≤ 5 * step → steps number step ≤ 5
steps_are_few number step some reaches = by_size (cases_lt 5 (div_ceil number step))
  where
    by_size : (5 < div_ceil number step) ⊎ (div_ceil number step ≤ 5) → steps number step ≤ 5
    by_size (inr few) = omega (arith, few)
    by_size (inl many) = absurd (omega (
      arith,
      reaches,
      (div_ceil_times number step some).1,
      mul-le-mul_right {m = 6} {n = div_ceil number step} step (omega (arith, many)),
    ))
