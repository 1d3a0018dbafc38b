-- The positions of stretches in a list (our choice).
use Rattle.std.specs.Prelude.{◌≡◌, ℕ, ◌+◌, ◌-◌, ◌<◌, ◌≤◌, cond, nat_eq, nat_le, nat_lt, List, Option, None, Some, slice_index_or}
use Rattle.ms_arena.specs.declared.words.positions.Positioned.{Positioned}
use Rattle.ms_arena.specs.declared.words.positions.Run.{Run}
use Rattle.ms_arena.specs.Others.{OthersView, position_among}

-- The stretch that got its position last, and the positions of the others.
pub record PositionsView : Type 0 where
  pub newest : Option Positioned
  pub others : OthersView

-- The position of a stretch; 0 where it has none.
abbrev pub position_in : Option Positioned → OthersView → ℕ → ℕ
position_in None others stretch = position_among others stretch
position_in (Some newest) others stretch = cond (nat_eq newest.stretch stretch) newest.position (position_among others stretch)

abbrev pub position_of : PositionsView → ℕ → ℕ
position_of positions stretch = position_in positions.newest positions.others stretch

-- The position of a stretch once those from one up to another were given the positions from one on, in a
-- row; the others have the position that they had.
abbrev pub position_given : ℕ → ℕ → ℕ → ℕ → ℕ → ℕ
position_given first past position stretch former =
    cond (nat_le first stretch) (cond (nat_lt stretch past) (position + (stretch - first)) former) former

-- A run by its number; further on there is none.
abbrev pub run_at : List Run → ℕ → Run
run_at runs at = slice_index_or runs at (record { first = 0; past = 0 })

-- All stretches of each run have positions.
abbrev pub HavePositions : Option Positioned → OthersView → List Run → Type 0
HavePositions newest others runs = (at stretch : ℕ) → (run_at runs at).first ≤ stretch → stretch < (run_at runs at).past
    → 0 < position_in newest others stretch

-- All positions stay.
abbrev pub StayPositions : PositionsView → PositionsView → Type 0
StayPositions old new = (stretch : ℕ) → position_of new stretch ≡ position_of old stretch
