-- A mask: words of 64 bits, each bit standing for a number (after HotSpot's commitMask.hpp).
use Rattle.std.specs.Prelude.{◌≡◌, ℕ, ◌*◌, ◌/◌, ◌%◌, ◌<◌, Bool, true, false, ◌==◌, List, length, slice_index}
use Rattle.std.specs.List.{filter, range_with_len}
use Rattle.std.specs.Int.{bit_at}

-- The bit at a position of a word is set.
abbrev pub is_one : ℕ → ℕ → Bool
is_one word position = bit_at word position == 1

-- The bit of a number is set: the one at the position number % 64 of the word number / 64.
abbrev pub is_set : List ℕ → ℕ → Bool
is_set words number = is_one (slice_index words (number / 64)) (number % 64)

-- The numbers whose bits are set, in rising order.
abbrev pub members_of : List ℕ → List ℕ
members_of words = filter (is_set words) (range_with_len 0 (64 * length words))

-- The number is the lowest whose bit is clear, and the mask has a bit for it.
pub record IsLowestClear (words : List ℕ) (number : ℕ) : Type 0 where
  pub within : number < 64 * length words
  pub clear : is_set words number ≡ false
  pub below : (k : ℕ) → k < number → is_set words k ≡ true
