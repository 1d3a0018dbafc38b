-- A digit more keeps the sum, and isn't the text's last byte.
use Rattle.std.proofs.Common.{◌≡◌, ℕ, List, true, false, arith, eqb, get_or, refl}
use Rattle.std.proofs.lemmas.Bool.Decides.{nat_tests}
use Rattle.std.specs.Char.{is_ascii_digit}
use Rattle.ms_trace.proofs.EndLemmas.{not_last}
use Rattle.ms_trace.proofs.NumberLemmas.{none_passed, number_cut, passed_more}
use Rattle.ms_trace.proofs.numbers.number_at.Goals as goal

pub loop-value-init : goal.loop-value-init
loop-value-init c = record { inside = c.requires.inside; passed = none_passed c.args.text.now c.args.from }

pub loop-value-preserved : goal.loop-value-preserved
loop-value-preserved c =
    let text : List ℕ = c.args.text.now in
    let at : ℕ = c.loop-value.at in
    let inside = c.loop-value.invariant.inside in
    let is_digit : is_ascii_digit (get_or text at 0) ≡ true = c.digit_at.ensures.digit c.loop-value-test.true in
    let other : eqb (get_or text at 0) 10 ≡ false = grind (arith, nat_tests, is_digit) in
    record {
      inside = not_last text at inside other c.requires.ended;
      passed = passed_more text c.args.from at c.loop-value.value c.digit_at-in-loop-value.result
          c.loop-value.invariant.passed inside is_digit (c.digit_at-in-loop-value.ensures.value is_digit);
    }

pub returns-clause-spelled : goal.returns-clause-spelled
returns-clause-spelled c =
    number_cut c.args.text.now c.args.from c.loop-value.at c.loop-value.value c.args.end
    c.loop-value.invariant.passed.after c.loop-value.invariant.inside c.if-text-at.false (c.if-not-is_number.ensures refl)

pub returns-clause-inside : goal.returns-clause-inside
returns-clause-inside c = λ other.
    let other_byte : eqb (get_or c.args.text.now c.loop-value.at 0) 10 ≡ false = rw c.if-text-at.false other in
    not_last c.args.text.now c.loop-value.at c.loop-value.invariant.inside other_byte c.requires.ended

pub returns-clause-bounded : goal.returns-clause-bounded
returns-clause-bounded c = c.if-value-greatest.false
