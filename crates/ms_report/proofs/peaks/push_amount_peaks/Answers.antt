use Rattle.std.proofs.Common.{codes, ◌++◌}
use Rattle.std.specs.Prelude.{string_bytes}
use Rattle.ms_base.specs.Part.{node_words}
use Rattle.ms_base.specs.Policy.{granule_of}
use Rattle.ms_report.specs.Peaks.{sized_line}
use Rattle.ms_report.proofs.TextLemmas.{adds_then, adds_two}
use Rattle.ms_report.proofs.peaks.push_amount_peaks.Goals as goal

pub returns : goal.returns
returns c =
    let peaks = c.args.peaks in
    let old = string_bytes c.args.text.now in
    let granules = sized_line (codes "granules") peaks.granules (granule_of c.args.settings.now.policy) in
    let nodes = sized_line (codes "nodes") peaks.nodes node_words in
    adds_then c.push_sized_line-3.result old _ _ (granules ++ nodes) (sized_line (codes "used") peaks.used 1)
    (adds_two old _ _ granules nodes (rw c.granule.ensures at c.in_ok-push_sized_line.ensures)
    c.in_ok-push_sized_line-2.ensures) c.push_sized_line-3.ensures
