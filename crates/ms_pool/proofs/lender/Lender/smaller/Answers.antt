use Rattle.std.proofs.Common.{ap, sym, ◌∙◌, arith, refl}
use Rattle.ms_base.proofs.free.HalvesLemmas.{size_falls}
use Rattle.ms_pool.proofs.searches.SearchLemmas.{decided_up, found_here, found_later, none_up}
use Rattle.ms_pool.specs.Searching.{first_up, part_at}
use Rattle.ms_pool.proofs.lender.Lender.smaller.Goals as goal

pub loop-level-init : goal.loop-level-init
unfolding first_up
loop-level-init c =
    rw c.number-from.ensures.same (omega (arith, c.number-from.ensures.same, c.number-from.ensures.below), refl)

pub lowest_free-requires-clause-fits : goal.lowest_free-requires-clause-fits
lowest_free-requires-clause-fits c =
    omega (
      arith,
      c.requires.fits,
      size_falls c.in-Some.level c.args.most (omega (arith, c.in-Some.ensures.below, c.number-end.ensures.same)),
    )

pub loop-level-preserved : goal.loop-level-preserved
loop-level-preserved c =
    rw c.number-from-in-Some.ensures.same (
      omega (arith, c.in-Some.ensures.below, c.number-end.ensures.below),
      decided_up _ _ _ c.args.levels _ c.number-end.result c.loop-level.from c.in-Some.level _ _ c.requires.told
          c.requires.fits c.number-end.ensures.same c.in-Some.ensures.from
          c.in-Some.ensures.below c.in-Some.ensures.lowest c.loop-level.invariant.1 c.lowest_free.ensures
          ∙ found_later _ _ (ap (part_at c.in-Some.level) c.in_default-lowest_free.is),
    )

pub returns-in-Some-lowest_free : goal.returns-in-Some-lowest_free
returns-in-Some-lowest_free c =
    sym (decided_up _ _ _ c.args.levels _ c.number-end.result c.loop-level.from c.in-Some.level _ _ c.requires.told
    c.requires.fits c.number-end.ensures.same c.in-Some.ensures.from
    c.in-Some.ensures.below c.in-Some.ensures.lowest c.loop-level.invariant.1 c.lowest_free.ensures
    ∙ found_here _ _ _ (ap (part_at c.in-Some.level) c.in-Some-lowest_free.is))

pub returns : goal.returns
returns c =
    sym (none_up _ _ _ c.args.levels _ c.number-end.result c.loop-level.from _ c.requires.told c.requires.fits
    c.number-end.ensures.same c.in_default.ensures.none c.loop-level.invariant.1)
