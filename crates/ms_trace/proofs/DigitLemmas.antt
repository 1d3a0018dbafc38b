-- Numbers as fields: `decimal` writes what `is_number` accepts, and nothing else.
use Rattle.std.proofs.Common.{zero, suc, add-one, ◌⊎◌, ⊎_elim, ◌-◌, ◌*◌, take, ◌≡◌, ℕ, ◌+◌, ◌^◌, ◌<◌, ◌≤◌, true, false}
use Rattle.std.proofs.Common.{◌&&◌, eqb, List, [], ◌∷◌, length, get_or, refl, sym, ap, arith}
use Rattle.std.proofs.lemmas.Bool.Decides.{nat_tests}
use Rattle.std.proofs.lemmas.Fmt.{digits_decimal, digits_value-decimal, decimal-digits_value, first_decimal}
use Rattle.std.proofs.lemmas.Fmt.{decimal_nonempty, decimal_digit}
use Rattle.std.proofs.lemmas.Str.Parse.{IsNumeralModel, numerals_by_value, tells_all_ascii_digits, digits_value-take-le}
use Rattle.std.specs.Fmt.{decimal}
use Rattle.std.proofs.lemmas.Bool.{and_parts, and_from, both_ways}
use Rattle.std.proofs.lemmas.List.Elements.{All-from_recursion}
use Rattle.std.proofs.lemmas.Int.Digits.{digits_value_more}
use Rattle.std.specs.Char.{is_ascii_digit, digit_value}
use Rattle.std.specs.List.{All, AllByRecursion, list_all}
use Rattle.std.specs.Str.{all_ascii_digits}
use Rattle.std.specs.Str.Parse.{digits_value}
use Rattle.ms_trace.specs.Faults.{is_number}

-- The digits of a numeral and its value, in std's words.
pub own : IsNumeralModel (λ ds. all_ascii_digits ds ≡ true) (digits_value 10)
own = numerals_by_value _ tells_all_ascii_digits

-- What `is_number` says, in parts.
pub record IsPlain (bytes : List ℕ) : Type 0 where
  pub digits : all_ascii_digits bytes ≡ true
  pub some : 0 < length bytes
  pub zero_alone : get_or bytes 0 0 ≡ 48 → length bytes ≡ 1

pub is_number_from_plain : (bytes : List ℕ) → IsPlain bytes → is_number bytes ≡ true
is_number_from_plain [] h = absurd (omega (arith, h.some))
is_number_from_plain (first ∷ rest) h = grind (arith, nat_tests, h.digits, h.zero_alone)

pub plain_from_is_number : (bytes : List ℕ) → is_number bytes ≡ true → IsPlain bytes
plain_from_is_number [] e = cc
plain_from_is_number (first ∷ rest) e = record {
  digits = grind (arith, nat_tests, e);
  some = omega arith;
  zero_alone = λ zero. grind (arith, nat_tests, e, zero);
}

zero_alone : (n : ℕ) → n < 2 ^ 64 → get_or (decimal n) 0 0 ≡ 48 → length (decimal n) ≡ 1
zero_alone zero small e = ap length (decimal_digit 0 (omega arith))
zero_alone (suc n) small e = absurd (omega (arith, first_decimal (suc n) (omega arith) small, e))

-- `decimal` writes a number.
pub decimal_is_plain : (n : ℕ) → n < 2 ^ 64 → IsPlain (decimal n)
decimal_is_plain n small = record {
  digits = digits_decimal own n small;
  some = decimal_nonempty n small;
  zero_alone = zero_alone n small;
}

pub is_number-decimal : (n : ℕ) → n < 2 ^ 64 → is_number (decimal n) ≡ true
is_number-decimal n small = is_number_from_plain (decimal n) (decimal_is_plain n small)

pub value-decimal : (n : ℕ) → n < 2 ^ 64 → digits_value 10 (decimal n) ≡ n
value-decimal n small = digits_value-decimal own n small

-- Each number is what `decimal` writes of its value.
pub decimal-value : (bytes : List ℕ) → is_number bytes ≡ true → digits_value 10 bytes < 2 ^ 64
    → decimal (digits_value 10 bytes) ≡ bytes
decimal-value bytes e small =
    let h : IsPlain bytes = plain_from_is_number bytes e in
    decimal-digits_value own bytes h.digits h.some h.zero_alone small

-- No byte of a number is a space.
digits_have_no_space : (bytes : List ℕ) → all_ascii_digits bytes ≡ true
    → AllByRecursion (λ byte. eqb byte 32 ≡ false) bytes
digits_have_no_space [] e = tt
digits_have_no_space (first ∷ rest) e =
    let parts : (is_ascii_digit first ≡ true) × (all_ascii_digits rest ≡ true) = and_parts _ _ e in
    (grind (arith, nat_tests, parts.0), digits_have_no_space rest parts.1)

pub decimal_has_no_space : (n : ℕ) → n < 2 ^ 64 → All (λ byte. eqb byte 32 ≡ false) (decimal n)
decimal_has_no_space n small =
    All-from_recursion (λ byte. eqb byte 32 ≡ false) (decimal n)
    (digits_have_no_space (decimal n) (digits_decimal own n small))

-- A byte that is no digit makes a field no number.
pub digit_at_all : (bytes : List ℕ) (i : ℕ) → all_ascii_digits bytes ≡ true → i < length bytes
    → is_ascii_digit (get_or bytes i 0) ≡ true
digit_at_all [] i e inside = absurd (omega arith)
digit_at_all (first ∷ rest) zero e inside = (and_parts _ _ e).0
digit_at_all (first ∷ rest) (suc i) e inside = digit_at_all rest i (and_parts _ _ e).1 (omega (arith, inside))

pub not_number_at : (bytes : List ℕ) (i : ℕ) → i < length bytes → is_ascii_digit (get_or bytes i 0) ≡ false
    → is_number bytes ≡ false
not_number_at bytes i inside e =
    elim (is_number bytes) as (λ b. is_number bytes ≡ b → b ≡ false) [
      | true ↦ λ number. absurd (both_ways _ e (digit_at_all bytes i (plain_from_is_number bytes number).digits inside))
      | false ↦ λ number. refl
    ] refl

-- One more digit.
digits_more_suc : (bytes : List ℕ) (i : ℕ) → i < length bytes → all_ascii_digits (take i bytes) ≡ true
    → is_ascii_digit (get_or bytes i 0) ≡ true → all_ascii_digits (take (suc i) bytes) ≡ true
digits_more_suc [] i inside all e = absurd (omega arith)
digits_more_suc (first ∷ rest) zero inside all e = and_from (is_ascii_digit first) true e refl
digits_more_suc (first ∷ rest) (suc i) inside all e =
    let parts : (is_ascii_digit first ≡ true) × (all_ascii_digits (take i rest) ≡ true) = and_parts _ _ all in
    and_from (is_ascii_digit first) (all_ascii_digits (take (suc i) rest)) parts.0
    (digits_more_suc rest i (omega (arith, inside)) parts.1 e)

pub digits_more_test : (bytes : List ℕ) (i : ℕ) → i < length bytes → all_ascii_digits (take i bytes) ≡ true
    → is_ascii_digit (get_or bytes i 0) ≡ true → all_ascii_digits (take (i + 1) bytes) ≡ true
digits_more_test bytes i inside all e = rw add-one (digits_more_suc bytes i inside all e)

digit_value-digit : (byte : ℕ) → is_ascii_digit byte ≡ true → digit_value byte ≡ byte - 48
digit_value-digit byte e = grind (arith, nat_tests, e)

pub value_more : (bytes : List ℕ) (i : ℕ) → i < length bytes → is_ascii_digit (get_or bytes i 0) ≡ true
    → digits_value 10 (take (i + 1) bytes) ≡ digits_value 10 (take i bytes) * 10 + (get_or bytes i 0 - 48)
value_more bytes i inside e = rw (sym (digit_value-digit (get_or bytes i 0) e)) (digits_value_more 10 bytes i inside)

-- Where one digit more doesn't fit in 64 bits, nor does the whole.
pub value_is_long : (bytes : List ℕ) (i : ℕ) → i < length bytes → is_ascii_digit (get_or bytes i 0) ≡ true
    → (digits_value 10 (take i bytes) * 10 + (get_or bytes i 0 - 48) < 2 ^ 64 → ⊥) → 2 ^ 64 ≤ digits_value 10 bytes
value_is_long bytes i inside e long =
    let front : digits_value 10 (take (i + 1) bytes) ≤ digits_value 10 bytes =
    digits_value-take-le 10 bytes (i + 1) (omega arith) in
    omega (arith, value_more bytes i inside e, front, long)

-- `all_ascii_digits` as a test of each byte.
pub list_all-digits : (bytes : List ℕ) → list_all is_ascii_digit bytes ≡ all_ascii_digits bytes
list_all-digits [] = refl
list_all-digits (byte ∷ bytes) = ap (λ rest. is_ascii_digit byte && rest) (list_all-digits bytes)

-- Digits without a leading zero are a number.
pub is_number_from_digits : (bytes : List ℕ) → all_ascii_digits bytes ≡ true → 0 < length bytes
    → ((get_or bytes 0 0 ≡ 48) × (length bytes ≡ 1)) ⊎ (get_or bytes 0 0 ≡ 48 → ⊥) → is_number bytes ≡ true
is_number_from_digits bytes all some either =
    is_number_from_plain bytes
    (record {
      digits = all;
      some = some;
      zero_alone = ⊎_elim (λ alone zero. alone.1) (λ not_zero zero. absurd (not_zero zero)) either;
    })
