use Rattle.std.proofs.Common.{◌≡◌, ap, sym, subst, ◌∙◌, IfSome}
use Rattle.ms_base.specs.Names.{named}
use Rattle.ms_base.specs.State.{Machine}
use Rattle.ms_loader_map.specs.Used.{used_if}
use Rattle.ms_c.specs.Holding.{Held}
use Rattle.ms_c.proofs.telling.nizgrabul_used_by.Goals as goal

-- the words are those of the loader of that number
pub returns-in-Some-clause-words : goal.returns-in-Some-clause-words
returns-in-Some-clause-words c =
    subst (λ (h : Held). IfSome h (λ m. c.used_by-words.result ≡ used_if (named m.loaders c.args.loader)))
    (sym c.in-Some.ensures.some)
    (c.used_by-words.ensures ∙ ap (λ (m : Machine). used_if (named m.loaders c.args.loader)) c.deref.ensures)
