-- Parts read from the front of a text: what the library's searches give, in the words of `Parts`.
-- Used by the functions of `parts`.
use Rattle.std.proofs.Common.{◌≡◌, ℕ, ◌+◌, ◌<◌, ◌^◌, true, false, nat_eq, List, length, take, drop, Option, Some, None, refl, sym, ◌∙◌, ap, ◌*◌, get_or, arith}
use Rattle.std.specs.Prelude.{MatchOption, SomeIff}
use Rattle.std.proofs.lemmas.Bool.{le-ltb, lt-ltb}
use Rattle.std.proofs.Math.Seq.{drop-cons, drop-length}
use Rattle.std.proofs.Common.{add-one}
use Rattle.std.specs.Cmp.Lexicographic.{pointwise}
use Rattle.std.specs.Borrow.{Bor}
use Rattle.std.specs.Option.{option_copied}
use Rattle.std.specs.Fmt.{decimal}
use Rattle.std.specs.Str.Parse.{digits_value}
use Rattle.ms_trace.specs.Grammar.{word_field}
use Rattle.ms_trace.specs.Faults.{field_fault}
use Rattle.ms_trace.specs.declared.fault.FaultKind.{FaultKind}
use Rattle.ms_trace.proofs.DigitLemmas.{value-decimal}
use Rattle.jvm_log.specs.Parts.{after, number_of, small_digit, value_after, with_digit}

-- What a stripped prefix leaves is what stands after the word.
pub after_of : (word text : List ℕ) (found : Option (Bor (List ℕ)))
    → MatchOption found (pointwise nat_eq (take (length word) text) word ≡ false)
    (λ x. (pointwise nat_eq (take (length word) text) word ≡ true) × (x.now ≡ drop (length word) text) × (length x.now + length word ≡ length text))
    → option_copied found ≡ after word text
unfolding after
after_of word text None e = rw e refl
after_of word text (Some rest) e = rw e.0 (ap Some e.1)

-- A field without a fault is the number that it spells.
pub number_read : (digits : List ℕ) (number : ℕ) → None ≡ field_fault word_field digits → decimal number ≡ digits
    → number < 2 ^ 64 → Some number ≡ number_of digits
unfolding number_of
number_read digits number fault spelled small =
    rw (sym fault) (ap Some (sym (value-decimal number small) ∙ ap (digits_value 10) spelled))

-- One with a fault is none.
pub number_unread : (digits : List ℕ) (kind : FaultKind) → Some kind ≡ field_fault word_field digits
    → None ≡ number_of digits
unfolding number_of
number_unread digits kind fault = rw (sym fault) refl

-- One more digit, by whether it fits.
pub with_digit_of : (found : Option ℕ) (value digit : ℕ) → SomeIff found (value * 16 + digit < 2 ^ 64) (value * 16 + digit)
    → found ≡ with_digit value digit
unfolding with_digit
with_digit_of None value digit wide = rw (le-ltb (value * 16 + digit) (2 ^ 64) (omega (arith, wide))) refl
with_digit_of (Some more) value digit fits = rw (lt-ltb (value * 16 + digit) (2 ^ 64) fits.0) (ap Some fits.1)

-- The digits from an index on, after those before it.
pub value_more : (digits : List ℕ) (i value digit more : ℕ) → i < length digits → Some digit ≡ small_digit (get_or digits i 0)
    → Some more ≡ with_digit value digit → value_after value (drop i digits) ≡ value_after more (drop (i + 1) digits)
value_more digits i value digit more inside known fits =
    rw (add-one, drop-cons digits i 0) (rw (sym known) (rw (sym fits) refl))

pub value_unread : (digits : List ℕ) (i value : ℕ) → i < length digits → None ≡ small_digit (get_or digits i 0)
    → value_after value (drop i digits) ≡ None
value_unread digits i value inside none = rw (drop-cons digits i 0) (rw (sym none) refl)

pub value_wide : (digits : List ℕ) (i value digit : ℕ) → i < length digits → Some digit ≡ small_digit (get_or digits i 0)
    → None ≡ with_digit value digit → value_after value (drop i digits) ≡ None
value_wide digits i value digit inside known wide = rw (drop-cons digits i 0) (rw (sym known) (rw (sym wide) refl))

pub value_end : (digits : List ℕ) (value : ℕ) → value_after value (drop (length digits) digits) ≡ Some value
value_end digits value = rw (drop-length digits) refl
