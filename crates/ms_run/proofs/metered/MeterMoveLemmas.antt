-- How a seat of the meter follows the words in use, modulo 2^64: over no step, over several, and
-- over one that adds a difference or takes off what goes. For metering.rt and working.rt.
use Rattle.std.proofs.Common.{◌≡◌, ◌<◌, ℕ, Bool, true, false, ◌+◌, ◌-◌, ◌%◌, ◌^◌, refl, sym, ◌∙◌, subst, arith}
use Rattle.ms_shared.specs.MeterRule.{MeterSeatState, added, after_step, taken_off}
use Rattle.ms_run.specs.Metering.{after_look}
use Rattle.ms_run.specs.Moved.{IsMoved}

pub moved_none : (seat : MeterSeatState) (used : ℕ) → IsMoved seat used seat used
moved_none seat used = record { meter = refl; amount = refl }

pub moved_then : (a b c : MeterSeatState) (u v w : ℕ) → IsMoved a u b v → IsMoved b v c w → IsMoved a u c w
moved_then a b c u v w first second =
    record { meter = second.meter ∙ first.meter; amount = omega (arith, first.amount, second.amount) }

-- A step adds what the words in use have risen by.
pub moved_up : (old new : MeterSeatState) (used used_now before after : ℕ) → before < 2 ^ 64
    → used_now + before ≡ used + after
    → new ≡ after_step old (added old.amount ((after + (2 ^ 64 - before)) % 2 ^ 64))
    → IsMoved old used new used_now
moved_up old new used used_now before after fits is new_is =
    subst (λ (s : MeterSeatState). IsMoved old used s used_now) (sym new_is)
    (record { meter = refl; amount = omega arith })

-- A step takes off what was in use and goes.
pub moved_down : (old new : MeterSeatState) (used used_now gone : ℕ) → gone < 2 ^ 64 → used_now + gone ≡ used
    → new ≡ after_step old (taken_off old.amount gone) → IsMoved old used new used_now
moved_down old new used used_now gone fits is new_is =
    subst (λ (s : MeterSeatState). IsMoved old used s used_now) (sym new_is)
    (record { meter = refl; amount = omega arith })

-- A look at the word moves nothing.
pub moved_looked : (old new : MeterSeatState) (used used_now : ℕ) (looks : Bool) → IsMoved old used new used_now
    → IsMoved old used (after_look looks new) used_now
moved_looked old new used used_now true its = record { meter = its.meter; amount = its.amount }
moved_looked old new used used_now false its = its
