-- The words in use of a machine over one step: what the loader that the step names got or lost is
-- what their sum did. For alone.rt.
use Rattle.std.proofs.Common.{◌≡◌, ◌≢◌, ◌<◌, ◌+◌, ◌-◌, ◌%◌, ◌^◌, ℕ, Bool, Some, List, [], ◌∷◌, refl, sym, ap}
use Rattle.std.proofs.Common.{◌∙◌, subst, IsTrue, arith}
use Rattle.std.specs.List.{sum_by}
use Rattle.std.specs.Map.{values_of}
use Rattle.std.specs.Option.{is_some}
use Rattle.std.proofs.lemmas.List.Sums.{sum_by-cons}
use Rattle.std.proofs.lemmas.Option.{same_Some}
use Rattle.ms_base.specs.declared.step.Step.{Step}
use Rattle.ms_base.specs.declared.step.Step.TheVariants.{New, Alloc, Calloc, Write, Read, Free, Unload, Purge}
use Rattle.ms_base.specs.declared.step.Reply.{Reply}
use Rattle.ms_base.specs.declared.step.Reply.TheVariants.{Ok as Done, At, Value, Refused}
use Rattle.ms_base.specs.Names.{named}
use Rattle.ms_base.specs.Spaces.{space_at}
use Rattle.ms_base.specs.State.{LoaderState, Machine, empty_loader}
use Rattle.ms_base.specs.Good.{IsGood}
use Rattle.ms_base.specs.Totals.{used_of}
use Rattle.ms_base.specs.Transition.{Transition, ServesStep}
use Rattle.ms_base.proofs.entries.LookupLemmas.{named_changed_same, named_new_same}
use Rattle.ms_loader_map.specs.Used.{used_by, used_if}
use Rattle.ms_answers.specs.declared.verbosity.Verbosity.{Verbosity}
use Rattle.ms_loaders.proofs.sums.UsedLemmas.{used_fits}
use Rattle.ms_run.specs.declared.alone.Metered.{Metered}
use Rattle.ms_run.specs.Counting.{IsCounted, used_around}
use Rattle.ms_run.specs.Metering.{used_words_of}
use Rattle.ms_base.proofs.own.OwnStepLemmas.{refused_leaves, served_others}
use Rattle.ms_run.proofs.TouchLemmas.{freed_used}
use Rattle.ms_run.proofs.metered.UseLemmas.{amounts_moved}

-- The sums over both spaces are one over loaders.
sums_are : (es : List (ℕ × LoaderState))
    → sum_by (λ (loader : LoaderState). used_of loader.arena) (values_of es)
    + sum_by (λ (loader : LoaderState). used_of loader.class_arena) (values_of es)
    ≡ sum_by used_by (values_of es)
sums_are [] = refl
sums_are (e ∷ es) = omega (
  arith,
  sum_by-cons used_by e.1 (values_of es),
  sum_by-cons (λ (loader : LoaderState). used_of loader.arena) e.1 (values_of es),
  sum_by-cons (λ (loader : LoaderState). used_of loader.class_arena) e.1 (values_of es),
  sums_are es,
)

-- The words in use go from one state to another as those of the loader that the step names do.
abbrev UseMoves : Machine → Step → Machine → Type 0
UseMoves old step new =
    used_words_of new + used_around step old.loaders ≡ used_words_of old + used_around step new.loaders

-- One loader changes, comes or goes.
one_moves : (old new : Machine) (mine : ℕ) → IsGood old → IsGood new
    → ((name : ℕ) → Some mine ≢ Some name → named new.loaders name ≡ named old.loaders name)
    → used_words_of new + used_if (named old.loaders mine) ≡ used_words_of old + used_if (named new.loaders mine)
one_moves old new mine was good others = omega (
  arith,
  sums_are old.loaders,
  sums_are new.loaders,
  amounts_moved used_if old.loaders new.loaders mine refl was.names good.names
      (λ name differs. others name (λ e. differs (same_Some mine name e))),
)

-- No loader changes.
none_moves : (old new : Machine) (step : Step) → new.loaders ≡ old.loaders → UseMoves old step new
none_moves old new step same =
    subst (λ (l : List (ℕ × LoaderState)). sum_by (λ (loader : LoaderState). used_of loader.arena) (values_of l)
    + sum_by (λ (loader : LoaderState). used_of loader.class_arena) (values_of l) + used_around step old.loaders
    ≡ used_words_of old + used_around step l) (sym same) refl

served_moves : (old new : Machine) (step : Step) (reply : Reply) → ServesStep old step reply new → IsGood old → IsGood new
    → UseMoves old step new
served_moves old new (New mine kind) Done made was good = omega (
  arith,
  one_moves old new mine was good (served_others old new (New mine kind) Done made),
  ap (λ (m : Machine). used_if (named m.loaders mine)) made.after
      ∙ ap used_if (named_new_same old.loaders mine (empty_loader kind)),
  ap used_if made.unused,
)
served_moves old new (Alloc mine block words) (At start) made was good =
    one_moves old new mine was good (served_others old new (Alloc mine block words) (At start) made)
served_moves old new (Calloc mine block words) (At start) made was good =
    one_moves old new mine was good (served_others old new (Calloc mine block words) (At start) made)
served_moves old new (Write mine block index value) Done made was good = omega (
  arith,
  one_moves old new mine was good (served_others old new (Write mine block index value) Done made),
  ap (λ (m : Machine). used_if (named m.loaders mine)) made.after
      ∙ ap used_if (named_changed_same old.loaders mine made.loader _ made.has.loader_is)
      ∙ ap used_if (sym made.has.loader_is),
)
served_moves old new (Read mine block index) (Value value) made was good =
    none_moves old new (Read mine block index) (ap (λ (m : Machine). m.loaders) made.after)
served_moves old new (Free mine block) Done made was good = omega (
  arith,
  one_moves old new mine was good (served_others old new (Free mine block) Done made),
  ap (λ (m : Machine). used_if (named m.loaders mine)) made.after
      ∙ ap used_if (named_changed_same old.loaders mine made.loader _ made.has.loader_is)
      ∙ freed_used (space_at made.found.start) made.loader block made.kept
      ∙ ap used_if (sym made.has.loader_is),
)
served_moves old new (Unload mine) Done made was good =
    one_moves old new mine was good (served_others old new (Unload mine) Done made)
served_moves old new Purge Done made was good = none_moves old new Purge (ap (λ (m : Machine). m.loaders) made)
served_moves old new _ _ made was good = absurd made

step_moves : (old new : Machine) (step : Step) (reply : Reply) → Transition old step reply new → IsGood old
    → IsGood new → UseMoves old step new
step_moves old new step (Refused refusal) told was good =
    none_moves old new step (refused_leaves old new step refusal told.1)
step_moves old new step Done told was good = served_moves old new step Done told.0 was good
step_moves old new step (At start) told was good = served_moves old new step (At start) told.0 was good
step_moves old new step (Value value) told was good = served_moves old new step (Value value) told.0 was good

-- The count follows: it adds what the loader has after the step, and takes off what it had before.
pub counted_use : (counts : Bool) (verbosity : Verbosity) (old : Metered) (new : Machine) (step : Step) (reply : Reply)
    (before after used : ℕ) → IsCounted counts verbosity old → Transition old.system step reply new → IsGood new
    → (IsTrue counts → before ≡ used_around step old.system.loaders)
    → (IsTrue counts → after ≡ used_around step new.loaders) → before < 2 ^ 64
    → used ≡ ((old.used + after) % 2 ^ 64 + (2 ^ 64 - before)) % 2 ^ 64
    → IsTrue counts → used ≡ used_words_of new
counted_use counts verbosity old new step reply before after used was told good first last fits sum looks = omega (
  arith,
  sum,
  fits,
  first looks,
  last looks,
  was.used looks,
  step_moves old.system new step reply told was.good good,
  used_fits new good,
  used_fits old.system was.good,
)

pub counted_on : (counts : Bool) (verbosity : Verbosity) (old new : Metered) → IsCounted counts verbosity old → IsGood new.system
    → (IsTrue counts → new.used ≡ used_words_of new.system) → is_some new.peaks ≡ is_some old.peaks
    → IsCounted counts verbosity new
counted_on counts verbosity old new was good used kept = record {
  good = good;
  used = used;
  kept = kept ∙ was.kept;
  counting = was.counting;
}
