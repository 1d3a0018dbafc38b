use Rattle.std.proofs.Common.{◌≡◌, ◌<◌, ◌+◌, ℕ, subst, arith}
use Rattle.ms_buddy.specs.Counts.{AreShifted}
use Rattle.ms_buddy.proofs.searches.StepLemmas.{one_joined}
use Rattle.ms_buddy.proofs.levels.join_counts.Goals as goal

pub returns : goal.returns
returns c =
    let last : c.loop-level.level ≡ c.args.lent + 1 =
    omega (arith, c.loop-level-test.false, c.loop-level.invariant.within) in
    subst (λ (high : ℕ). AreShifted c.loop-level.counts c.args.free high c.args.counts.now) last
    c.loop-level.invariant.shifted

pub loop-level-preserved : goal.loop-level-preserved
loop-level-preserved c =
    let past : c.args.free < c.loop-level.level = omega arith in
    record {
      within = omega arith;
      shifted = one_joined _ _ _ c.args.free c.loop-level.level past c.loop-level.invariant.shifted c.one_less.ensures;
    }
