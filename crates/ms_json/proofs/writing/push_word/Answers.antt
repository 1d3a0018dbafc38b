use Rattle.std.specs.Prelude.{string_bytes}
use Rattle.ms_json.proofs.WritingLemmas.{in_quotes}
use Rattle.ms_json.proofs.writing.push_word.Goals as goal

pub returns : goal.returns
returns c = in_quotes c.push_str-3.result (string_bytes c.args.text.now) _ _ _ c.args.word.now c.requires
    c.in_ok-push_str.ensures.bytes c.in_ok-push_str-2.ensures.bytes c.push_str-3.ensures.bytes
