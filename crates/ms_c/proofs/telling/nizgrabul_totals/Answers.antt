use Rattle.std.proofs.Common.{◌≡◌, ap, sym, subst, ◌∙◌, IfSome}
use Rattle.ms_base.specs.Totals.{Sums, sums_of}
use Rattle.ms_answers.specs.Sums.{sums_in}
use Rattle.ms_c.specs.declared.answer.TheConstants.{DONE}
use Rattle.ms_c.specs.declared.totals.Totals.{Totals}
use Rattle.ms_c.specs.Holding.{Held}
use Rattle.ms_c.specs.Sums.{AreTotals}
use Rattle.ms_c.proofs.telling.nizgrabul_totals.Goals as goal

-- what was gathered is told as it is
pub returns-in-Ok-clause-totals : goal.returns-in-Ok-clause-totals
returns-in-Ok-clause-totals c =
    let told : Totals = record { loaders = c.in-Ok.totals.loaders; space = c.space_sums.result; class_space = c.space_sums-in-Ok.result } in
    let sums : sums_in c.in-Ok.totals ≡ sums_of c.in-Some.system.value = c.in-Ok.ensures ∙ ap sums_of c.deref.ensures in
    subst (λ (h : Held). IfSome h (λ m. 0 ≡ DONE → AreTotals m told)) (sym c.in-Some.ensures.some) (λ _. record {
      loaders = ap (λ (s : Sums). s.loaders) sums;
      space = c.space_sums.ensures ∙ ap (λ (s : Sums). s.space) sums;
      class_space = c.space_sums-in-Ok.ensures ∙ ap (λ (s : Sums). s.class_space) sums;
    })
