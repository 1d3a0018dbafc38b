-- How one seat of the meter follows the words in use of its worker's loaders.
use Rattle.std.specs.Prelude.{◌≡◌, ℕ, ◌+◌, ◌%◌, ◌^◌}
use Rattle.ms_shared.specs.MeterRule.{MeterSeatState}

-- A seat's amount moved as the words in use did, modulo 2^64.
pub record IsMoved (old : MeterSeatState) (used : ℕ) (new : MeterSeatState) (used_now : ℕ) : Type 0 where
  pub meter : new.id ≡ old.id
  pub amount : (used + new.amount) % 2 ^ 64 ≡ (used_now + old.amount) % 2 ^ 64
