use Rattle.std.proofs.Common.{arith}
use Rattle.ms_pool.proofs.searches.LevelBitLemmas.{none_before, none_from}
use Rattle.ms_pool.proofs.index.lowest_level.Goals as goal

pub returns-then-later-eq0-clause-none : goal.returns-then-later-eq0-clause-none
returns-then-later-eq0-clause-none c = λ level from _.
    none_from c.args.levels c.args.from level c.if-later-eq0.true from

pub returns-then-number-end-clause-none : goal.returns-then-number-end-clause-none
returns-then-number-end-clause-none c = λ level from below.
    none_before c.args.levels c.args.from level (omega (arith, c.if-later-eq0.false)) c.ranges.levels.fits from
    (omega (arith, below, c.if-number-end.true))

pub returns-clause-lowest : goal.returns-clause-lowest
returns-clause-lowest c = λ level from below.
    none_before c.args.levels c.args.from level (omega (arith, c.if-later-eq0.false)) c.ranges.levels.fits from
    (omega (arith, below, c.new.ensures))
