use Rattle.std.specs.Prelude.{string_bytes}
use Rattle.ms_json.proofs.WritingLemmas.{label_text}
use Rattle.ms_json.proofs.writing.push_label.Goals as goal

pub returns : goal.returns
returns c = label_text c.push_str.result (string_bytes c.args.text.now) _ _ _ _ _
    c.in_ok-push_comma.ensures c.in_ok-push_word.ensures c.push_str.ensures.bytes
