use Rattle.std.specs.Prelude.{string_bytes}
use Rattle.ms_answers.specs.Details.{told_in}
use Rattle.ms_answers.specs.Sums.{sums_in}
use Rattle.ms_report.specs.Detailed.{usage_part, details_part, maps_part}
use Rattle.ms_report.specs.Peaks.{peaks_part}
use Rattle.ms_report.specs.Refused.{refused_part}
use Rattle.ms_report.specs.Sections.{report_text}
use Rattle.ms_report.specs.Setup.{settings_part}
use Rattle.ms_report.proofs.TextLemmas.{adds_seven}
use Rattle.ms_report.proofs.detailed.push_full.Goals as goal

pub returns : goal.returns
returns c =
    let settings = c.args.settings.now in
    let sums = sums_in c.args.totals.now in
    let told = told_in c.args.totals.now in
    adds_seven (string_bytes c.args.text.now) _ _ _ _ _ _ _ (report_text sums) (settings_part settings)
    (usage_part settings sums) (details_part told) (refused_part c.args.refusals.now)
    (peaks_part settings c.args.totals.now.peaks) (maps_part told)
    c.in_ok-push_report.ensures c.in_ok-push_settings.ensures c.in_ok-push_usages.ensures
    c.in_ok-push_details.ensures c.in_ok-push_refused.ensures c.in_ok-push_peaks.ensures
    c.in_ok-push_roots.ensures
