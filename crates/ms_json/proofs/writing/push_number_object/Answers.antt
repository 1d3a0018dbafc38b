use Rattle.std.specs.Prelude.{string_bytes}
use Rattle.ms_json.specs.Rows.{number_rows}
use Rattle.ms_json.proofs.WritingLemmas.{in_braces}
use Rattle.ms_json.proofs.writing.push_number_object.Goals as goal

pub returns : goal.returns
returns c = in_braces c.push_str-2.result (string_bytes c.args.text.now) _ _ _ (number_rows c.args.rows.now)
    c.in_ok-push_str.ensures.bytes c.in_ok-push_numbers.ensures c.push_str-2.ensures.bytes
