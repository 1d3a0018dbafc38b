use Rattle.std.proofs.Common.{codes, ◌++◌}
use Rattle.std.specs.Prelude.{string_bytes}
use Rattle.ms_report.specs.Layout.{number_line}
use Rattle.ms_report.specs.Peaks.{amount_peaks, peak_headings}
use Rattle.ms_report.proofs.TextLemmas.{adds_then, adds_two}
use Rattle.ms_report.proofs.peaks.push_all_peaks.Goals as goal

pub returns : goal.returns
returns c =
    let old = string_bytes c.args.text.now in
    let titles = codes "Peaks\n" ++ peak_headings in
    let amounts = amount_peaks c.args.settings.now c.args.peaks in
    adds_then c.push_number_line.result old _ _ (titles ++ amounts)
    (number_line (codes "loaders") c.args.peaks.loaders)
    (adds_two old _ _ titles amounts c.in_ok-push_str.ensures.bytes c.in_ok-push_amount_peaks.ensures)
    c.push_number_line.ensures
