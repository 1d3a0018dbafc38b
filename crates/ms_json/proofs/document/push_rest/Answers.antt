use Rattle.std.proofs.Common.{codes, true}
use Rattle.std.specs.Prelude.{string_bytes}
use Rattle.json.specs.Print.{quoted}
use Rattle.serde_json.specs.Written.{comma_if}
use Rattle.ms_report.proofs.TextLemmas.{adds_then}
use Rattle.ms_json.proofs.ChainLemmas.{adds_member, last_text}
use Rattle.ms_json.proofs.document.push_rest.Goals as goal

pub returns : goal.returns
returns c =
    let r = c.push_str-4.result in
    adds_then r (string_bytes c.args.text.now) _ _ (codes ",\"reports\":[") _ c.in_ok-push_str.ensures.bytes
    (adds_then r _ _ _ c.args.reports.now _ c.in_ok-push_str-2.ensures.bytes
    (adds_then r _ _ _ (codes "]") _ c.in_ok-push_str-3.ensures.bytes
    (adds_member r _ _ _ _ (comma_if true) (quoted (codes "settings")) _ _ c.in_ok-push_label.ensures c.in_ok-push_settings.ensures
    (adds_member r _ _ _ _ (comma_if true) (quoted (codes "word bytes")) _ _ c.in_ok-push_label-2.ensures c.in_ok-push_number.ensures
    (last_text r _ _ (codes "}\n") c.push_str-4.ensures.bytes)))))
