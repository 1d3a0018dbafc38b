use Rattle.std.proofs.Common.{map}
use Rattle.std.specs.Prelude.{string_bytes}
use Rattle.ms_json.specs.Names.{name_data}
use Rattle.ms_json.proofs.WritingLemmas.{in_brackets}
use Rattle.ms_json.proofs.naming.push_list.Goals as goal

pub returns : goal.returns
returns c = in_brackets c.push_str-2.result (string_bytes c.args.text.now) _ _ _ (map name_data c.args.names.now)
    c.in_ok-push_str.ensures.bytes c.in_ok-push_each_name.ensures c.push_str-2.ensures.bytes
