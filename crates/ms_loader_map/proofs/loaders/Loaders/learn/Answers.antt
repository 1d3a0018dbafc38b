use Rattle.std.proofs.Common.{[], ◌∷◌, ◌∙◌, subst}
use Rattle.std.specs.List.{All}
use Rattle.std.proofs.lemmas.List.Elements.{recursion_from_All, All-from_recursion}
use Rattle.ms_loader.specs.Loader.{IsSoundView}
use Rattle.ms_loader_map.proofs.loaders.Loaders.learn.Goals as goal

pub loop-loader-init : goal.loop-loader-init
loop-loader-init c = λ all.
    subst (All IsSoundView) (c.into_iter-loader-iterator.ensures.into_iter_gives ∙ c.values-loader-items.ensures.all) all

pub loop-loader-preserved : goal.loop-loader-preserved
loop-loader-preserved c = λ all. c.loop-loader.invariant (rw c.in-Some.ensures.steps
    (All-from_recursion IsSoundView (c.in-Some.loader.now ∷ c.next.new.self)
    (c.accounts.ensures.sound, recursion_from_All IsSoundView c.next.new.self all)))

pub returns-clause-sound : goal.returns-clause-sound
returns-clause-sound c = c.loop-loader.invariant (rw c.in-None.ensures.steps.0 (All-from_recursion IsSoundView [] tt))
