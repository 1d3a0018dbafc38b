-- Stretches that have positions keep them, and a run of words is in each of its stretches. The
-- functions of `positions` and `words` use these.
use Rattle.std.proofs.Common.{◌≡◌, ℕ, ◌+◌, ◌-◌, ◌*◌, ◌/◌, ◌<◌, ◌≤◌, cond, Option, Some, None, ap, arith}
use Rattle.std.proofs.Common.{inl, inr}
use Rattle.std.specs.Prelude.{nat_eq}
use Rattle.std.proofs.lemmas.Bool.{cases_eq}
use Rattle.std.proofs.lemmas.Bool.Decides.{nat_tests}
use Rattle.ms_arena.specs.declared.words.positions.Positioned.{Positioned}
use Rattle.ms_arena.specs.Others.{OthersView, StayPositioned}
use Rattle.ms_arena.specs.Positions.{position_given, position_in}

-- Others that give the same give the same positions.
pub positions_stay : (newest : Option Positioned) (old new : OthersView) → StayPositioned old new → (stretch : ℕ)
    → position_in newest new stretch ≡ position_in newest old stretch
positions_stay None old new same stretch = same stretch
positions_stay (Some newest) old new same stretch = ap (cond (nat_eq newest.stretch stretch) newest.position) (same stretch)

-- Of no stretch all have the position that they had, and one stretch more has its own.
pub given_none : (first position stretch former : ℕ) → former ≡ position_given first first position stretch former
given_none first position stretch former = grind (arith, nat_tests)

pub given_more : (first past position stretch former : ℕ) → first ≤ past
    → cond (nat_eq past stretch) (position + (past - first)) (position_given first past position stretch former)
    ≡ position_given first (past + 1) position stretch former
given_more first past position stretch former order = grind (arith, nat_tests)

-- Where more get positions, those that have one have one still.
pub still_there : (first past position stretch former : ℕ) → 0 < position → 0 < former
    → 0 < position_given first past position stretch former
still_there first past position stretch former some had = grind (arith, nat_tests)

-- A word of a run in each of its stretches.
pub record HasWordIn (start end stretch : ℕ) : Type 0 where
  pub word : ℕ
  pub low : start ≤ word
  pub high : word < end
  pub lies : word / 2048 ≡ stretch

pub word_in_stretch : (start end stretch : ℕ) → start < end → start / 2048 ≤ stretch → 2048 * stretch < end
    → HasWordIn start end stretch
word_in_stretch start end stretch some low high = elim (cases_eq (start / 2048) stretch) [
  | inl same ↦ record { word = start; low = omega arith; high = some; lies = same }
  | inr differ ↦ record {
    word = 2048 * stretch;
    low = omega (arith, low, differ);
    high = high;
    lies = omega arith;
  }
]
