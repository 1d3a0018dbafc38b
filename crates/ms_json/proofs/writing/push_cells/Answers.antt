use Rattle.std.specs.Prelude.{string_bytes}
use Rattle.ms_report.specs.Map.{letters}
use Rattle.ms_json.proofs.WritingLemmas.{in_quotes, letters_plain}
use Rattle.ms_json.proofs.writing.push_cells.Goals as goal

pub returns : goal.returns
returns c = in_quotes c.push_str-2.result (string_bytes c.args.text.now) _ _ _ (letters c.args.cells.now)
    (letters_plain c.args.cells.now) c.in_ok-push_str.ensures.bytes c.in_ok-push_letters.ensures c.push_str-2.ensures.bytes
