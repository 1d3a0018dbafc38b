-- Sums over what nothing bounds (this project's choice).
use Rattle.std.specs.Prelude.{ℕ, ◌-◌, ◌^◌, min}

-- A number as far as 64 bits hold it.
abbrev pub capped : ℕ → ℕ
capped number = min number (2 ^ 64 - 1)
