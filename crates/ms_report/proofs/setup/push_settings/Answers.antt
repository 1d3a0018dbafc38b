use Rattle.std.proofs.Common.{codes, ◌++◌}
use Rattle.std.specs.Prelude.{string_bytes}
use Rattle.ms_report.specs.Layout.{number_lines}
use Rattle.ms_report.specs.Setup.{policy_line, setting_rows}
use Rattle.ms_report.proofs.TextLemmas.{adds_then, adds_two}
use Rattle.ms_report.proofs.setup.push_settings.Goals as goal

pub returns : goal.returns
returns c =
    let settings = c.args.settings.now in
    let old = string_bytes c.args.text.now in
    let title = codes "Settings\n" in
    let policy = policy_line settings.policy in
    adds_then c.push_setting_rows.result old _ _ (title ++ policy) (number_lines (setting_rows settings))
    (adds_two old _ _ title policy c.in_ok-push_str.ensures.bytes
    (rw c.policy_row.ensures at c.in_ok-push_str-2.ensures.bytes)) c.push_setting_rows.ensures
