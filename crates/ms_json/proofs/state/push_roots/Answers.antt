use Rattle.std.specs.Prelude.{string_bytes}
use Rattle.std.proofs.Common.{map}
use Rattle.ms_pool.specs.Mapping.{map_in}
use Rattle.ms_json.specs.Sums.{root_data}
use Rattle.ms_json.proofs.WritingLemmas.{in_brackets}
use Rattle.ms_json.proofs.state.push_roots.Goals as goal

pub returns : goal.returns
returns c = in_brackets c.push_str-2.result (string_bytes c.args.text.now) _ _ _ (map root_data (map map_in c.args.roots.now))
    c.in_ok-push_str.ensures.bytes c.in_ok-push_each_root.ensures c.push_str-2.ensures.bytes
