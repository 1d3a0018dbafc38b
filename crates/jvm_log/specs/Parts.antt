-- The parts of a line of the log, each read from the front of a text: what it is worth, if anything,
-- and what stands after it. A text is a list of bytes.
use Rattle.std.specs.Prelude.{ℕ, ◌+◌, ◌*◌, ◌-◌, ◌^◌, ◌&&◌, not, nat_eq, nat_lt, nat_le, ◌==◌, List, [], ◌∷◌, length, take, drop, Option, Some, None}
use Rattle.std.specs.Prelude.{if◌then◌else◌, codes, position, bytes_eq, is_none, unwrap_or, slice_index}
use Rattle.std.specs.Char.{is_ascii_digit}
use Rattle.std.specs.Cmp.Lexicographic.{pointwise}
use Rattle.std.specs.Option.{option_map, option_or}
use Rattle.std.specs.Str.Parse.{digits_value}
use Rattle.ms_base.specs.declared.kind.Space.{Space}
use Rattle.ms_base.specs.declared.kind.Space.TheVariants.{NonClass, Class}
use Rattle.ms_trace.specs.Grammar.{word_field}
use Rattle.ms_trace.specs.Faults.{field_fault}

-- What a reading gives goes on to the next, unless there is nothing.
infixl 10 ◌>>=◌
abbrev pub ◌>>=◌ : {A B : Type 0} → Option A → (A → Option B) → Option B
None >>= next = None
(Some value) >>= next = next value

-- What stands after a word.
unfoldable pub after : List ℕ → List ℕ → Option (List ℕ)
after word text = if pointwise nat_eq (take (length word) text) word then Some (drop (length word) text) else None

-- The word and nothing else.
unfoldable pub only : List ℕ → List ℕ → Option (Unit {0})
only word text = if bytes_eq text word then Some tt else None

-- What stands after the first such byte.
unfoldable pub past : ℕ → List ℕ → Option (List ℕ)
past byte text = option_map (λ at. drop (at + 1) text) (position (λ b. b == byte) text)

-- How many digits a text begins with.
unfoldable pub digit_count : List ℕ → ℕ
digit_count text = unwrap_or (position (λ byte. not (is_ascii_digit byte)) text) (length text)

-- The number that digits are, where they are one of a trace: without leading zeros, below 2^64.
unfoldable pub number_of : List ℕ → Option ℕ
number_of digits = if is_none (field_fault word_field digits) then Some (digits_value 10 digits) else None

-- A number, of all digits that there are.
unfoldable pub number_at : List ℕ → Option (ℕ × List ℕ)
number_at text = option_map (λ number. (number, drop (digit_count text) text)) (number_of (take (digit_count text) text))

-- The value of a digit to the base 16, of which letters are small.
unfoldable pub small_digit : ℕ → Option ℕ
small_digit byte =
    if nat_le 48 byte && nat_le byte 57 then Some (byte - 48)
    else if nat_le 97 byte && nat_le byte 102 then Some (byte - 87)
    else None

-- One more digit to the base 16, where that fits in 64 bits.
unfoldable pub with_digit : ℕ → ℕ → Option ℕ
with_digit value digit = if nat_lt (value * 16 + digit) (2 ^ 64) then Some (value * 16 + digit) else None

-- The number that digits to the base 16 are, after those that are worth a value.
abbrev pub value_after : ℕ → List ℕ → Option ℕ
value_after value [] = Some value
value_after value (byte ∷ bytes) =
    small_digit byte >>= λ digit. with_digit value digit >>= λ more. value_after more bytes

-- An address is `0x` and sixteen digits.
unfoldable pub address_at : List ℕ → Option (ℕ × List ℕ)
address_at text = do
  rest ← after (codes "0x") text
  digits ← if nat_le 16 (length rest) then Some (take 16 rest) else None
  address ← value_after 0 digits
  Some (address, drop 16 rest)

-- A level is `lv` and two digits.
unfoldable pub level_at : List ℕ → Option (ℕ × List ℕ)
level_at text = do
  rest ← after (codes "lv") text
  ones ← if nat_le 2 (length rest) && is_ascii_digit (slice_index rest 0) && is_ascii_digit (slice_index rest 1) then Some (slice_index rest 1 - 48) else None
  Some ((slice_index rest 0 - 48) * 10 + ones, drop 2 rest)

-- A word, and a number, an address or a level after it.
unfoldable pub number_after : List ℕ → List ℕ → Option (ℕ × List ℕ)
number_after word text = after word text >>= number_at

unfoldable pub address_after : List ℕ → List ℕ → Option (ℕ × List ℕ)
address_after word text = after word text >>= address_at

unfoldable pub level_after : List ℕ → List ℕ → Option (ℕ × List ℕ)
level_after word text = after word text >>= level_at

-- The name of a space.
unfoldable pub space_at : List ℕ → Option (Space × List ℕ)
space_at text =
    option_or (option_map (λ rest. (NonClass, rest)) (after (codes "non-class") text))
    (option_map (λ rest. (Class, rest)) (after (codes "class") text))
