-- Sets of numbers, as the lists of their members in rising order (this project's choice).
use Rattle.std.specs.Prelude.{ℕ, ◌+◌, ◌<◌, Bool, not, ◌==◌, ◌&&◌, nat_lt, nat_le, List, ◌++◌, length}
use Rattle.std.specs.List.{All, filter, range_with_len}
use Rattle.std.specs.List.Sorted.{IsStrictlyIncreasing}
use Rattle.ms_base.specs.Committed.{is_among}

-- The number is one of so many from the first on.
abbrev pub is_in_range : ℕ → ℕ → ℕ → Bool
is_in_range first count number = nat_le first number && nat_lt number (first + count)

-- The set with a range added: what lies below the range, the range, and what lies past it.
abbrev pub with_range : List ℕ → ℕ → ℕ → List ℕ
with_range members first count =
    filter (λ number. nat_lt number first) members ++ range_with_len first count
    ++ filter (λ number. nat_le (first + count) number) members

-- The set without the numbers of a range.
abbrev pub without_range : List ℕ → ℕ → ℕ → List ℕ
without_range members first count = filter (λ number. not (is_in_range first count number)) members

-- The set without a number.
abbrev pub without_number : List ℕ → ℕ → List ℕ
without_number members number = filter (λ other. not (other == number)) members

-- How many numbers of a range are members.
abbrev pub count_within : List ℕ → ℕ → ℕ → ℕ
count_within members first count =
    length (filter (is_among members) (range_with_len first count))

-- How many numbers of a range are no members.
abbrev pub count_missing : List ℕ → ℕ → ℕ → ℕ
count_missing members first count =
    length (filter (λ number. not (is_among members number)) (range_with_len first count))

-- The members rise, and lie below a bound.
pub record IsSetBelow (bound : ℕ) (members : List ℕ) : Type 0 where
  pub rising : IsStrictlyIncreasing members
  pub below : All (λ member. member < bound) members
