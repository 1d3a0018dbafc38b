use Rattle.std.proofs.Common.{sym, ap, ◌∙◌}
use Rattle.ms_course.specs.declared.standing.Standing.{Standing}
use Rattle.ms_course.specs.Course.{greater_standing}
use Rattle.ms_page.proofs.PeakLemmas.{peaks_more}
use Rattle.ms_page.proofs.peaks.peaks_of.Goals as goal

pub loop-column-preserved : goal.loop-column-preserved
loop-column-preserved c =
    let column = c.column-item.result in
    c.greater-peaks.ensures
    ∙ ap (λ (peaks : Standing). greater_standing peaks column.most) c.loop-column.invariant
    ∙ sym (peaks_more c.args.columns.now c.loop-column.column-index _ column c.loop-column-test.true c.column-item.is)
