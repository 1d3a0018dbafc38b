use Rattle.std.proofs.Common.{◌≡◌, sym, subst, IfSome}
use Rattle.ms_base.specs.State.{Machine}
use Rattle.ms_loaders.specs.LoaderSums.{AreLoaderSums}
use Rattle.ms_c.specs.declared.answer.TheConstants.{DONE}
use Rattle.ms_c.specs.Holding.{Held}
use Rattle.ms_c.specs.Sums.{TellsLoader}
use Rattle.ms_c.proofs.telling.nizgrabul_loader_totals.Goals as goal

-- what was found is told as it is
pub returns-in-Some-answer-clause-totals : goal.returns-in-Some-answer-clause-totals
returns-in-Some-answer-clause-totals c =
    subst (λ (h : Held). IfSome h (λ m. 0 ≡ DONE → TellsLoader m c.args.loader c.loader_sums.result))
    (sym c.in-Some.ensures.some) (λ _. record {
      totals = c.in-Some-answer.totals;
      are =
          subst (λ (m : Machine). AreLoaderSums m c.args.loader c.in-Some-answer.totals) c.deref.ensures
          c.in-Some-answer.ensures.sums;
      told = c.loader_sums.ensures;
    })
