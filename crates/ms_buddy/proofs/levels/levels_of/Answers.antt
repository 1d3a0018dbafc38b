-- The level is told where it has any.
use Rattle.std.proofs.Common.{arith}
use Rattle.ms_buddy.proofs.searches.StepLemmas.{one_passed, one_told}
use Rattle.ms_buddy.proofs.levels.levels_of.Goals as goal
use Rattle.ms_buddy.proofs.levels.levels_of.Goals.{then-counts-level-ne0, else-counts-level-ne0}

pub loop-level-preserved : goal.loop-level-preserved
loop-level-preserved c = elim c.if-counts-level-ne0.branch [
  | then-counts-level-ne0 w ↦ record {
    within = omega (arith, c.loop-level-test.true);
    told = rw w.levels-is (one_told c.loop-level.levels c.args.counts.now c.loop-level.level (omega (arith, c.loop-level-test.true))
        (omega (arith, w.if-counts-level-ne0.true)) c.loop-level.invariant.told);
  }
  | else-counts-level-ne0 w ↦ record {
    within = omega (arith, c.loop-level-test.true);
    told = rw w.levels-is (one_passed c.loop-level.levels c.args.counts.now c.loop-level.level
        w.if-counts-level-ne0.false c.loop-level.invariant.told);
  }
]
