use Rattle.std.proofs.Common.{ap, sym, ◌∙◌, arith}
use Rattle.ms_base.proofs.free.HalvesLemmas.{size_falls}
use Rattle.ms_pool.proofs.searches.SearchLemmas.{decided_down, down_first, found_here, found_later, none_down}
use Rattle.ms_pool.specs.Searching.{part_at}
use Rattle.ms_pool.proofs.lender.Lender.larger.Goals as goal

pub loop-level-init : goal.loop-level-init
loop-level-init c = rw c.number-end.ensures.same (omega arith, down_first _ _ _ c.args.wanted)

pub lowest_free-requires-clause-fits : goal.lowest_free-requires-clause-fits
lowest_free-requires-clause-fits c =
    omega (
      arith,
      c.requires.fits,
      size_falls c.in-Some.level c.args.wanted (omega (arith, c.in-Some.ensures.below, c.loop-level.invariant.0)),
    )

pub loop-level-preserved : goal.loop-level-preserved
loop-level-preserved c =
    rw c.number-end-in-Some.ensures.same (
      omega (arith, c.in-Some.ensures.below, c.loop-level.invariant.0),
      decided_down _ _ _ c.args.levels c.args.wanted c.loop-level.end c.in-Some.level _ _ c.requires.told
          c.requires.fits c.loop-level.invariant.0 c.in-Some.ensures.below c.in-Some.ensures.highest c.loop-level.invariant.1
          c.lowest_free.ensures
          ∙ found_later _ _ (ap (part_at c.in-Some.level) c.in_default-lowest_free.is),
    )

pub returns-in-Some-lowest_free : goal.returns-in-Some-lowest_free
returns-in-Some-lowest_free c =
    sym (decided_down _ _ _ c.args.levels c.args.wanted c.loop-level.end c.in-Some.level _ _ c.requires.told
    c.requires.fits c.loop-level.invariant.0
    c.in-Some.ensures.below c.in-Some.ensures.highest c.loop-level.invariant.1 c.lowest_free.ensures
    ∙ found_here _ _ _ (ap (part_at c.in-Some.level) c.in-Some-lowest_free.is))

pub returns : goal.returns
returns c =
    sym (none_down _ _ _ c.args.levels c.args.wanted c.loop-level.end _ c.requires.told c.requires.fits
    c.loop-level.invariant.0
    c.in_default.ensures.none c.loop-level.invariant.1)
