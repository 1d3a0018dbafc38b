use Rattle.std.specs.Prelude.{string_bytes}
use Rattle.ms_json.specs.Leaves.{leaf_rows}
use Rattle.ms_json.proofs.WritingLemmas.{in_braces}
use Rattle.ms_json.proofs.writing.push_object.Goals as goal

pub returns : goal.returns
returns c = in_braces c.push_str-2.result (string_bytes c.args.text.now) _ _ _ (leaf_rows c.args.rows.now)
    c.in_ok-push_str.ensures.bytes c.in_ok-push_leaves.ensures c.push_str-2.ensures.bytes
