use Rattle.std.proofs.Common.{codes}
use Rattle.std.specs.Prelude.{string_bytes}
use Rattle.ms_report.proofs.TextLemmas.{adds_text}
use Rattle.ms_json.proofs.RunLemmas.{lines_text, run_text}
use Rattle.ms_json.proofs.WritingLemmas.{adds_as}
use Rattle.ms_json.proofs.run.push_run.Goals as goal

pub returns : goal.returns
returns c = adds_as c.push_str.result (string_bytes c.args.text.now) _ _ _ (run_text c.args.run.first c.args.run.last)
    (adds_text c.push_str.result (string_bytes c.args.text.now) _ _ (lines_text c.args.run.first c.args.run.last)
    (codes "\"ok\"]") c.in_ok-push_lines.ensures c.push_str.ensures.bytes)
