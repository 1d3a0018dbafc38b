use Rattle.ms_base.specs.declared.kind.Space.TheVariants.{NonClass, Class}
use Rattle.ms_loader.proofs.SumsLemmas.{sums_of_arena, within}
use Rattle.ms_loader.proofs.loader.Loader.totals.Goals as goal

pub totals-requires : goal.totals-requires
totals-requires c = (within c.self.inside c.self.invariant NonClass).fit

pub totals-requires-2 : goal.totals-requires-2
totals-requires-2 c = (within c.self.inside c.self.invariant Class).fit

pub returns-clause-sums : goal.returns-clause-sums
returns-clause-sums c =
    rw (← c.self.view_is) (sums_of_arena c.self.inside c.self.invariant NonClass c.totals.result c.totals.ensures.sums)

pub returns-clause-class_sums : goal.returns-clause-class_sums
returns-clause-class_sums c =
    rw (← c.self.view_is) (sums_of_arena c.self.inside c.self.invariant Class c.totals-2.result c.totals-2.ensures.sums)
