-- The line that says that a command is done (this project's choice).
use Rattle.std.specs.Prelude.{◌≡◌, ℕ, ◌≤◌, List, ◌++◌, codes, drop, length, replicate}
use Rattle.std.specs.Fmt.{decimal}

-- Bytes that are the line of a number from an index on, with spaces after it.
pub record IsDoneLine (number from : ℕ) (bytes : List ℕ) : Type 0 where
  pub long : length bytes ≡ 36
  pub low : 8 ≤ from
  pub high : from ≤ 20
  pub digits : drop from bytes ≡ decimal number ++ drop 20 bytes
  pub word : drop 20 bytes ≡ codes " ok\n" ++ replicate 12 32
