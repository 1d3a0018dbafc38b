-- A byte that is no digit decides, and a digit that no longer fits; else the value goes on.
use Rattle.std.proofs.Common.{◌≡◌, ◌<◌, ◌≤◌, ◌^◌, ℕ, List, true, arith, take, sym, ◌∙◌, length, get_or, refl}
use Rattle.std.proofs.lemmas.Grind.{common_steps}
use Rattle.std.proofs.lemmas.Bool.Decides.{nat_tests}
use Rattle.std.specs.Char.{is_ascii_digit}
use Rattle.std.specs.Str.{all_ascii_digits}
use Rattle.std.specs.Str.Parse.{digits_value}
use Rattle.ms_trace.specs.Faults.{is_number}
use Rattle.ms_trace.proofs.DigitLemmas.{not_number_at, digits_more_test, value_more, value_is_long}
use Rattle.ms_trace.proofs.DigitLemmas.{is_number_from_digits, decimal-value}
use Rattle.ms_trace.proofs.FieldLemmas.{long_fault}
use Rattle.ms_trace.proofs.fields.read_number.Goals as goal

pub returns-then-not-is_ascii_digit-clause-fault : goal.returns-then-not-is_ascii_digit-clause-fault
returns-then-not-is_ascii_digit-clause-fault c =
    rw (not_number_at c.args.field.now c.loop-byte.byte-index c.loop-byte-test.true
    (sym c.is_ascii_digit.ensures.value ∙ c.if-not-is_ascii_digit.true)) refl

pub returns-in-None-clause-fault : goal.returns-in-None-clause-fault
returns-in-None-clause-fault c =
    let field : List ℕ = c.args.field.now in
    let is_digit : is_ascii_digit (get_or field c.loop-byte.byte-index 0) ≡ true =
    sym c.is_ascii_digit.ensures.value ∙ c.if-not-is_ascii_digit.false in
    let long : 2 ^ 64 ≤ digits_value 10 field =
    value_is_long field c.loop-byte.byte-index c.loop-byte-test.true is_digit
    (rw c.loop-byte.invariant.value at (rw c.from.ensures at c.in-None.ensures)) in
    let some : 0 < length field = grind (arith, nat_tests, c.is_empty.ensures, c.if-is_empty.false) in
    rw c.fault_of_long.ensures (long_fault c.args.greatest field c.ranges.greatest.fits long some c.if-field-ne1.either)

pub loop-byte-preserved : goal.loop-byte-preserved
loop-byte-preserved c =
    let field : List ℕ = c.args.field.now in
    let at : ℕ = c.loop-byte.byte-index in
    let is_digit : is_ascii_digit (get_or field at 0) ≡ true =
    sym c.is_ascii_digit.ensures.value ∙ c.if-not-is_ascii_digit.false in
    record {
      digits = digits_more_test field at c.loop-byte-test.true c.loop-byte.invariant.digits is_digit;
      value = rw c.in-Some.ensures.1
          (rw c.from.ensures
          (rw c.loop-byte.invariant.value (sym (value_more field at c.loop-byte-test.true is_digit))));
    }

pub returns-then-number-greatest-clause-number : goal.returns-then-number-greatest-clause-number
returns-then-number-greatest-clause-number c =
    let field : List ℕ = c.args.field.now in
    let whole : take c.loop-byte.byte-index field ≡ field = grind (arith, common_steps) in
    let digits : all_ascii_digits field ≡ true = rw whole at c.loop-byte.invariant.digits in
    let value : c.loop-byte.number ≡ digits_value 10 field = rw whole at c.loop-byte.invariant.value in
    let some : 0 < length field = grind (arith, nat_tests, c.is_empty.ensures, c.if-is_empty.false) in
    let form : is_number field ≡ true = is_number_from_digits field digits some c.if-field-ne1.either in
    rw value (decimal-value field form (omega (arith, value, c.if-number-greatest.true, c.ranges.greatest.fits)))
