use Rattle.std.specs.Prelude.{string_bytes}
use Rattle.std.proofs.Common.{map}
use Rattle.ms_json.specs.Rows.{natural}
use Rattle.ms_json.proofs.WritingLemmas.{in_brackets}
use Rattle.ms_json.proofs.writing.push_levels.Goals as goal

pub returns : goal.returns
returns c = in_brackets c.push_str-2.result (string_bytes c.args.text.now) _ _ _ (map natural c.args.numbers.now)
    c.in_ok-push_str.ensures.bytes c.in_ok-push_each.ensures c.push_str-2.ensures.bytes
