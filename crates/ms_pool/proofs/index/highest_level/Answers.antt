use Rattle.std.proofs.Common.{arith}
use Rattle.ms_pool.proofs.searches.LevelBitLemmas.{highest_below, none_below}
use Rattle.ms_pool.proofs.index.highest_level.Goals as goal

pub returns-then-lower-eq0-clause-none : goal.returns-then-lower-eq0-clause-none
returns-then-lower-eq0-clause-none c = λ level low.
    none_below c.args.levels c.args.end level c.requires.few c.if-lower-eq0.true low

pub new-requires : goal.new-requires
new-requires c =
    omega (
      arith,
      c.requires.few,
      (highest_below c.args.levels c.args.end c.requires.few (omega (arith, c.if-lower-eq0.false))).below,
    )

pub returns-clause-below : goal.returns-clause-below
returns-clause-below c =
    omega (
      arith,
      c.new.ensures,
      (highest_below c.args.levels c.args.end c.requires.few (omega (arith, c.if-lower-eq0.false))).below,
    )

pub returns-clause-highest : goal.returns-clause-highest
returns-clause-highest c = λ level past low.
    (highest_below c.args.levels c.args.end c.requires.few (omega (arith, c.if-lower-eq0.false))).above level
    (omega (arith, past, c.new.ensures)) low
