-- Digits added up modulo 2^64, and where that sum is the number that they write.
use Rattle.std.proofs.Common.{◌≡◌, ℕ, suc, zero, ◌+◌, ◌-◌, ◌*◌, ◌%◌, ◌^◌, ◌<◌, ◌≤◌, true, List, [], ◌∷◌, length, get_or}
use Rattle.std.proofs.Common.{take, drop, ◌++◌, arith, add-one, length-drop, refl, sym, ap, ◌∙◌}
use Rattle.std.proofs.lemmas.Bool.Decides.{nat_tests}
use Rattle.std.proofs.lemmas.Fmt.{decimal-digits_value}
use Rattle.std.proofs.lemmas.List.{drop-drop, drop_more, get_or-drop, take_all, take-append-drop}
use Rattle.std.proofs.lemmas.Str.Parse.{digits_value_short}
use Rattle.std.proofs.Math.Nat.{pow-suc}
use Rattle.std.specs.Char.{is_ascii_digit}
use Rattle.std.specs.Fmt.{decimal}
use Rattle.std.specs.Str.{all_ascii_digits}
use Rattle.std.specs.Str.Parse.{digits_value}
use Rattle.ms_trace.proofs.DigitLemmas.{own, value_more, digit_at_all, digits_more_test}

-- One digit more.
pub sum_more : (bytes : List ℕ) (i value digit : ℕ) → i < length bytes → is_ascii_digit (get_or bytes i 0) ≡ true
    → value ≡ digits_value 10 (take i bytes) % 2 ^ 64 → digit ≡ get_or bytes i 0 - 48
    → (value * 10 % 2 ^ 64 + digit) % 2 ^ 64 ≡ digits_value 10 (take (i + 1) bytes) % 2 ^ 64
sum_more bytes i value digit inside is_digit sum e = omega (arith, value_more bytes i inside is_digit, sum, e)

-- What was passed from a at_is on are digits, with that sum.
pub record HasPassed (text : List ℕ) (from at value : ℕ) : Type 0 where
  pub after : from ≤ at
  pub digits : all_ascii_digits (take (at - from) (drop from text)) ≡ true
  pub sum : value ≡ digits_value 10 (take (at - from) (drop from text)) % 2 ^ 64

pub none_passed : (text : List ℕ) (from : ℕ) → HasPassed text from from 0
none_passed text from =
    let none : from - from ≡ 0 = omega arith in
    record { after = omega arith; digits = rw none refl; sum = rw none refl }

pub passed_more : (text : List ℕ) (from at value digit : ℕ) → HasPassed text from at value → at < length text
    → is_ascii_digit (get_or text at 0) ≡ true → digit ≡ get_or text at 0 - 48
    → HasPassed text from (at + 1) ((value * 10 % 2 ^ 64 + digit) % 2 ^ 64)
passed_more text from at value digit passed inside is_digit e =
    let back : List ℕ = drop from text in
    let at_is : from + (at - from) ≡ at = omega (arith, passed.after) in
    let more : at + 1 - from ≡ at - from + 1 = omega (arith, passed.after) in
    let here : get_or back (at - from) 0 ≡ get_or text at 0 =
    get_or-drop from text (at - from) 0 ∙ ap (λ k. get_or text k 0) at_is in
    let within : at - from < length back = omega (arith, length-drop from text, passed.after, inside) in
    let is_here : is_ascii_digit (get_or back (at - from) 0) ≡ true = rw here is_digit in
    record {
      after = omega (arith, passed.after);
      digits = rw more (digits_more_test back (at - from) within passed.digits is_here);
      sum = rw more (sum_more back (at - from) value digit within is_here passed.sum (rw here e));
    }

-- Where they are a number, the text goes on with it and the byte after it.
pub number_cut : (text : List ℕ) (from at value byte : ℕ) → from ≤ at → at < length text → get_or text at 0 ≡ byte
    → decimal value ≡ take (at - from) (drop from text) → drop from text ≡ decimal value ++ byte ∷ drop (at + 1) text
number_cut text from at value byte after inside here e =
    let at_is : from + (at - from) ≡ at = omega (arith, after) in
    let rest : drop (at - from) (drop from text) ≡ byte ∷ drop (at + 1) text =
    drop-drop (at - from) from text ∙ ap (λ k. drop k text) at_is ∙ drop_more text at 0 inside
    ∙ ap (λ first. first ∷ drop (at + 1) text) here in
    sym (take-append-drop (at - from) (drop from text)) ∙ ap (λ front. front ++ drop (at - from) (drop from text)) (sym e)
    ∙ ap (λ back. decimal value ++ back) rest

-- Digits of a number below 2^64 are what `decimal` writes of their sum.
written : (digits : List ℕ) (value : ℕ) → all_ascii_digits digits ≡ true → value ≡ digits_value 10 digits % 2 ^ 64
    → digits_value 10 digits < 2 ^ 64 → 0 < length digits → (get_or digits 0 0 ≡ 48 → length digits ≡ 1)
    → decimal value ≡ digits
written digits value all sum small some alone =
    let whole : value ≡ digits_value 10 digits = omega (arith, sum, small) in
    rw whole (decimal-digits_value own digits all some alone small)

-- So are nineteen digits or fewer.
pub written_short : (digits : List ℕ) (value : ℕ) → all_ascii_digits digits ≡ true
    → value ≡ digits_value 10 digits % 2 ^ 64 → 0 < length digits → length digits ≤ 19
    → (get_or digits 0 0 ≡ 48 → length digits ≡ 1) → decimal value ≡ digits
written_short digits value all sum some few alone =
    let small : digits_value 10 digits < 10 ^ 19 = digits_value_short own digits 19 all few in
    written digits value all sum (omega (arith, small)) some alone

-- Digits that begin with a 1 are below twice a power of ten.
below_two : (first : ℕ) (rest : List ℕ) (i : ℕ) → all_ascii_digits (first ∷ rest) ≡ true → first ≡ 49 → i ≤ length rest
    → digits_value 10 (take (suc i) (first ∷ rest)) < 2 * 10 ^ i
below_two first rest zero all one inside = rw one (omega arith)
below_two first rest (suc i) all one inside =
    let is_digit : is_ascii_digit (get_or (first ∷ rest) (suc i) 0) ≡ true =
    digit_at_all (first ∷ rest) (suc i) all (omega (arith, inside)) in
    let low : get_or (first ∷ rest) (suc i) 0 - 48 ≤ 9 = grind (arith, nat_tests, is_digit) in
    let more : digits_value 10 (take (suc (suc i)) (first ∷ rest))
    ≡ digits_value 10 (take (suc i) (first ∷ rest)) * 10 + (get_or (first ∷ rest) (suc i) 0 - 48) =
    rw add-one at (value_more (first ∷ rest) (suc i) (omega (arith, inside)) is_digit) in
    omega (arith, more, low, below_two first rest i all one (omega (arith, inside)), pow-suc 10 i)

-- Twenty digits that begin with a 1 are what `decimal` writes of their sum, where it has twenty
-- too.
pub written_long : (digits : List ℕ) (value : ℕ) → all_ascii_digits digits ≡ true
    → value ≡ digits_value 10 digits % 2 ^ 64 → length digits ≡ 20 → get_or digits 0 0 ≡ 49
    → 10 ^ 19 ≤ value → decimal value ≡ digits
written_long [] value all sum twenty one large = absurd (omega (arith, twenty))
written_long (first ∷ rest) value all sum twenty one large =
    let whole : take (suc 19) (first ∷ rest) ≡ first ∷ rest =
    take_all (suc 19) (first ∷ rest) (omega (arith, twenty)) in
    let low : digits_value 10 (first ∷ rest) < 2 * 10 ^ 19 =
    rw whole at (below_two first rest 19 all one (omega (arith, twenty))) in
    let small : digits_value 10 (first ∷ rest) < 2 ^ 64 = omega (arith, low, sum, large) in
    written (first ∷ rest) value all sum small (omega arith) (λ zero. absurd (omega (arith, one, zero)))
