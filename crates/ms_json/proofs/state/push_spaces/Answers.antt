use Rattle.std.proofs.Common.{codes}
use Rattle.std.specs.Prelude.{string_bytes}
use Rattle.ms_report.proofs.TextLemmas.{adds_then}
use Rattle.ms_json.proofs.ChainLemmas.{last_text}
use Rattle.ms_json.proofs.state.push_spaces.Goals as goal

pub returns : goal.returns
returns c =
    let r = c.push_str-3.result in
    adds_then r (string_bytes c.args.text.now) _ _ (codes "[") _ c.in_ok-push_str.ensures.bytes
    (adds_then r _ _ _ _ _ c.in_ok-push_space.ensures
    (adds_then r _ _ _ (codes ",") _ c.in_ok-push_str-2.ensures.bytes
    (adds_then r _ _ _ _ _ c.in_ok-push_space-2.ensures
    (last_text r _ _ (codes "]") c.push_str-3.ensures.bytes))))
