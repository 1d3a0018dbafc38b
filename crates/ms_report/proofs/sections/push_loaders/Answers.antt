use Rattle.std.proofs.Common.{map, codes, ◌++◌}
use Rattle.std.specs.Prelude.{string_bytes}
use Rattle.ms_answers.specs.Sums.{row_in}
use Rattle.ms_report.specs.Layout.{header, loader_table, loader_lines}
use Rattle.ms_report.proofs.TextLemmas.{adds_then}
use Rattle.ms_report.proofs.sections.push_loaders.Goals as goal

pub returns : goal.returns
returns c =
    adds_then c.push_rows.result (string_bytes c.args.text.now) _ _ (codes "Loaders\n" ++ header loader_table)
    (loader_lines (map row_in c.args.rows.now)) c.in_ok-push_str.ensures.bytes c.push_rows.ensures
