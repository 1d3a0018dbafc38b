use Rattle.std.proofs.Common.{◌++◌, rules}
use Rattle.std.specs.Prelude.{string_bytes}
use Rattle.std.specs.Fmt.{decimal}
use Rattle.ms_report.proofs.TextLemmas.{adds_two}
use Rattle.ms_json.proofs.WritingLemmas.{in_quotes, plain_both, plain_decimal}
use Rattle.ms_json.proofs.run.push_told_number.Goals as goal

pub returns : goal.returns
returns c =
    let word = c.args.word.now in
    let digits = decimal c.args.number in
    in_quotes c.push_str-3.result (string_bytes c.args.text.now) _ _ _ (word ++ digits)
    (plain_both word digits c.requires (plain_decimal c.args.number (search rules)))
    c.in_ok-push_str.ensures.bytes
    (adds_two _ _ _ word digits c.in_ok-push_str-2.ensures.bytes (rw c.from.ensures at c.in_ok-push_number.ensures))
    c.push_str-3.ensures.bytes
