use Rattle.std.proofs.Common.{codes, true}
use Rattle.std.specs.Prelude.{string_bytes}
use Rattle.json.specs.Print.{quoted}
use Rattle.serde_json.specs.Written.{comma_if}
use Rattle.ms_report.proofs.TextLemmas.{adds_then}
use Rattle.ms_json.proofs.ChainLemmas.{adds_member}
use Rattle.ms_json.proofs.document.push_middle.Goals as goal

pub returns : goal.returns
returns c =
    let r = c.push_names.result in
    adds_then r (string_bytes c.args.text.now) _ _ (codes "]") _ c.in_ok-push_str.ensures.bytes
    (adds_member r _ _ _ _ (comma_if true) (quoted (codes "command lines")) _ _ c.in_ok-push_label.ensures (rw c.from.ensures at c.in_ok-push_number.ensures)
    (adds_member r _ _ _ _ (comma_if true) (quoted (codes "course")) _ _ c.in_ok-push_label-2.ensures c.in_ok-push_course.ensures
    (adds_member r _ _ _ _ (comma_if true) (quoted (codes "end")) _ _ c.in_ok-push_label-3.ensures c.in_ok-push_state.ensures
    (adds_member r _ _ _ _ (comma_if true) (quoted (codes "form")) _ _ c.in_ok-push_label-4.ensures c.in_ok-push_word.ensures
    c.push_names.ensures))))
