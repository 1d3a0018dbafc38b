use Rattle.std.proofs.Common.{sym, ap, ◌∙◌}
use Rattle.ms_report.specs.declared.kinds.KindTotals.{KindTotals}
use Rattle.ms_answers.specs.Details.{loader_in}
use Rattle.ms_report.specs.Kinds.{with_loader}
use Rattle.ms_report.proofs.KindLemmas.{one_of_kind, one_of_other, below_more}
use Rattle.ms_report.proofs.kinds.sum_one.Goals.{then-is_same, else-is_same}
use Rattle.ms_report.proofs.kinds.sum_one.Goals as goal

pub loop-loader-preserved : goal.loop-loader-preserved
loop-loader-preserved c =
    let so_far = c.loop-loader.invariant in
    elim c.if-is_same.branch [
      | then-is_same w ↦ rw w.totals-is (record {
        sums = w.add-totals.ensures.sums
            ∙ ap (λ (t : KindTotals). with_loader t (loader_in c.loader-item.result)) so_far.sums
            ∙ sym (one_of_kind c.args.kind c.args.loaders.now c.loop-loader.loader-index _ c.loader-item.result
            c.loop-loader-test.true c.loader-item.is (sym c.is_same.ensures ∙ w.if-is_same.true));
        below = w.add-totals.ensures.below c.loop-loader.loader-index so_far.below;
      })
      | else-is_same w ↦ rw w.totals-is (record {
        sums = so_far.sums
            ∙ sym (one_of_other c.args.kind c.args.loaders.now c.loop-loader.loader-index _ c.loader-item.result
            c.loop-loader-test.true c.loader-item.is (sym c.is_same.ensures ∙ w.if-is_same.false));
        below = below_more c.loop-loader.loader-index c.loop-loader.totals so_far.below;
      })
    ]
