use Rattle.std.proofs.Common.{codes, true, sym, ◌∙◌}
use Rattle.std.specs.Prelude.{string_bytes}
use Rattle.json.specs.Print.{quoted}
use Rattle.serde_json.specs.Written.{comma_if}
use Rattle.ms_json.proofs.ChainLemmas.{adds_last, adds_rows}
use Rattle.ms_json.proofs.naming.push_names.Goals as goal

pub returns : goal.returns
returns c =
    adds_rows c.push_list.result (string_bytes c.args.text.now) _ c.args.names.now (sym c.is_empty.ensures ∙ c.if-is_empty.false)
    (adds_last c.push_list.result _ _ _ (comma_if true) (quoted (codes "names")) _ c.in_ok-push_label.ensures c.push_list.ensures)
