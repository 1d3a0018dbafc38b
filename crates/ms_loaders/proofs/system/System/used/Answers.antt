use Rattle.std.proofs.Common.{◌≡◌, ◌+◌, ℕ, List, ◌∷◌, ap, subst, ◌∙◌, arith}
use Rattle.std.specs.List.{sum_by}
use Rattle.std.proofs.lemmas.List.Sums.{sum_by-cons}
use Rattle.ms_base.specs.declared.kind.Space.TheVariants.{NonClass, Class}
use Rattle.ms_base.specs.State.{Machine}
use Rattle.ms_base.specs.Totals.{used_words}
use Rattle.ms_loader.specs.Loader.{LoaderView}
use Rattle.ms_loaders.proofs.sums.FitLemmas.{machine_is_good}
use Rattle.ms_loaders.proofs.sums.UsedLemmas.{used_in_both, used_is, used_fits}
use Rattle.ms_loaders.proofs.system.System.used.Goals as goal

pub loop-loader-init : goal.loop-loader-init
loop-loader-init c =
    subst (λ (m : Machine). 0 + sum_by used_in_both c.into_iter-loader-iterator.result
    ≡ used_words NonClass m + used_words Class m) c.self.view_is
    (none c.into_iter-loader-iterator.result
    ∙ ap (sum_by used_in_both) (c.into_iter-loader-iterator.ensures.into_iter_gives ∙ c.values-loader-items.ensures.all)
    ∙ used_is c.self.inside.loaders)
  where
    none : (l : List LoaderView) → 0 + sum_by used_in_both l ≡ sum_by used_in_both l
    none l = omega arith

pub overflow_add-words : goal.overflow_add-words
overflow_add-words c =
    let all =
    rw (
      c.in-Some.ensures.steps,
      sum_by-cons used_in_both c.in-Some.loader.now c.next.new.self,
      ← c.self.view_is,
    ) at c.loop-loader.invariant in
    omega (
      arith,
      all,
      c.used-words.ensures,
      used_fits _ (machine_is_good c.self.inside.pool c.self.inside.loaders c.self.invariant.together),
    )

-- One more loader's words are counted.
goes_on : (words used : ℕ) (loader : LoaderView) (left rest : List LoaderView) (all : ℕ)
    → words + sum_by used_in_both left ≡ all → left ≡ loader ∷ rest → used ≡ used_in_both loader
    → words + used + sum_by used_in_both rest ≡ all
goes_on words used loader left rest all so first is =
    omega (arith, so, ap (sum_by used_in_both) first, sum_by-cons used_in_both loader rest, is)

pub loop-loader-preserved : goal.loop-loader-preserved
loop-loader-preserved c =
    goes_on c.loop-loader.words c.used-words.result c.in-Some.loader.now c.loop-loader.loader-iterator c.next.new.self _
    c.loop-loader.invariant c.in-Some.ensures.steps c.used-words.ensures
