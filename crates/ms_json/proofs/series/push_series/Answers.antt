use Rattle.std.specs.Prelude.{string_bytes}
use Rattle.ms_json.specs.Series.{numbers_in}
use Rattle.ms_json.proofs.WritingLemmas.{in_brackets}
use Rattle.ms_json.proofs.series.push_series.Goals as goal

pub returns : goal.returns
returns c = in_brackets c.push_str-2.result (string_bytes c.args.text.now) _ _ _ (numbers_in c.args.series c.args.columns.now)
    c.in_ok-push_str.ensures.bytes c.in_ok-push_numbers_in.ensures c.push_str-2.ensures.bytes
