-- A digit more, or one that is too much.
use Rattle.std.proofs.Common.{◌≡◌, Some, None, get_or, sym, ◌∙◌}
use Rattle.jvm_log.specs.Parts.{small_digit, with_digit}
use Rattle.jvm_log.proofs.PartLemmas.{value_more, value_wide, with_digit_of}
use Rattle.jvm_log.proofs.parts.address_of.Goals as goal

pub loop-byte-preserved : goal.loop-byte-preserved
loop-byte-preserved c =
    let known : Some c.from.result ≡ small_digit (get_or c.args.digits.now c.loop-byte.byte-index 0) =
    rw c.from.ensures (sym c.in_ok-digit.was ∙ c.small_digit.ensures) in
    let fits : Some c.in_ok-more.more ≡ with_digit c.loop-byte.address c.from.result =
    sym c.in_ok-more.was ∙ with_digit_of c.with_digit.result c.loop-byte.address c.from.result c.with_digit.ensures in
    sym (value_more c.args.digits.now c.loop-byte.byte-index c.loop-byte.address c.from.result c.in_ok-more.more
    c.loop-byte-test.true known fits)
    ∙ c.loop-byte.invariant

pub returns-in_err-more : goal.returns-in_err-more
returns-in_err-more c =
    let known : Some c.from.result ≡ small_digit (get_or c.args.digits.now c.loop-byte.byte-index 0) =
    rw c.from.ensures (sym c.in_ok-digit.was ∙ c.small_digit.ensures) in
    let wide : None ≡ with_digit c.loop-byte.address c.from.result =
    sym c.in_err-more.was ∙ with_digit_of c.with_digit.result c.loop-byte.address c.from.result c.with_digit.ensures in
    c.from_residual-in_err-more.ensures
    ∙ sym (value_wide c.args.digits.now c.loop-byte.byte-index c.loop-byte.address c.from.result c.loop-byte-test.true known wide)
    ∙ c.loop-byte.invariant
