use Rattle.std.specs.Prelude.{string_bytes}
use Rattle.std.proofs.Common.{map}
use Rattle.ms_answers.specs.Details.{loader_in}
use Rattle.ms_json.specs.Sums.{loader_data}
use Rattle.ms_json.proofs.WritingLemmas.{in_brackets}
use Rattle.ms_json.proofs.state.push_loaders.Goals as goal

pub returns : goal.returns
returns c = in_brackets c.push_str-2.result (string_bytes c.args.text.now) _ _ _ (map loader_data (map loader_in c.args.loaders.now))
    c.in_ok-push_str.ensures.bytes c.in_ok-push_each_loader.ensures c.push_str-2.ensures.bytes
