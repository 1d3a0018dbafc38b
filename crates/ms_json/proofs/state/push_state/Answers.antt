use Rattle.std.proofs.Common.{codes, true, false}
use Rattle.std.specs.Prelude.{string_bytes}
use Rattle.json.specs.Print.{quoted}
use Rattle.serde_json.specs.Written.{comma_if}
use Rattle.ms_report.proofs.TextLemmas.{adds_then}
use Rattle.ms_json.proofs.ChainLemmas.{adds_member, last_text}
use Rattle.ms_json.proofs.state.push_state.Goals as goal

pub returns : goal.returns
returns c =
    let r = c.push_str-2.result in
    adds_then r (string_bytes c.args.text.now) _ _ (codes "{") _ c.in_ok-push_str.ensures.bytes
    (adds_member r _ _ _ _ (comma_if false) (quoted (codes "kinds")) _ _ c.in_ok-push_label.ensures c.in_ok-push_kinds_if.ensures
    (adds_member r _ _ _ _ (comma_if true) (quoted (codes "line")) _ _ c.in_ok-push_label-2.ensures c.in_ok-push_line.ensures
    (adds_member r _ _ _ _ (comma_if true) (quoted (codes "loaders")) _ _ c.in_ok-push_label-3.ensures c.in_ok-push_loaders_told.ensures
    (adds_member r _ _ _ _ (comma_if true) (quoted (codes "map")) _ _ c.in_ok-push_label-4.ensures c.in_ok-push_map_told.ensures
    (adds_member r _ _ _ _ (comma_if true) (quoted (codes "peaks")) _ _ c.in_ok-push_label-5.ensures c.in_ok-push_peaks_told.ensures
    (adds_member r _ _ _ _ (comma_if true) (quoted (codes "refused")) _ _ c.in_ok-push_label-6.ensures c.in_ok-push_refused.ensures
    (adds_member r _ _ _ _ (comma_if true) (quoted (codes "spaces")) _ _ c.in_ok-push_label-7.ensures c.in_ok-push_spaces.ensures
    (last_text r _ _ (codes "}") c.push_str-2.ensures.bytes))))))))
