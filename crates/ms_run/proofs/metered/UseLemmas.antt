-- The words in use of loaders of which one changes: what it gained or lost is what their sum did.
-- For metering.rt, and for alone.rt by StepUseLemmas.
use Rattle.std.proofs.Common.{◌≡◌, ◌≢◌, ◌+◌, ℕ, Bool, true, false, cond, Option, Some, None, List, [], ◌∷◌, refl, sym}
use Rattle.std.proofs.Common.{ap, ◌∙◌, inl, inr, subst, option_map, arith}
use Rattle.std.specs.Ordering.{nat_cmp}
use Rattle.std.specs.BTreeMap.{is_at}
use Rattle.std.specs.List.{sum_by}
use Rattle.std.specs.Map.{values_of}
use Rattle.std.proofs.lemmas.Bool.{cases_eq}
use Rattle.std.proofs.lemmas.List.Sums.{sum_by-cons}
use Rattle.std.proofs.lemmas.Option.{same_Some}
use Rattle.ms_base.specs.declared.step.Step.TheVariants.{Unload}
use Rattle.ms_base.specs.declared.step.Reply.{Reply}
use Rattle.ms_base.specs.declared.step.Reply.TheVariants.{Ok as Done, At, Value, Refused}
use Rattle.ms_base.specs.declared.refusal.Refusal.TheVariants.{NoLoader}
use Rattle.ms_base.specs.Run.Alone.{OwnLoader, OwnReply}
use Rattle.ms_base.specs.Names.{AreNamed, named, without}
use Rattle.ms_base.proofs.entries.EntryLemmas.{rises_without}
use Rattle.ms_base.proofs.entries.LookupLemmas.{named_without_other}
use Rattle.ms_base.proofs.events.SeenEntryLemmas.{named_without_same, same_entries}
use Rattle.ms_loader.specs.Loader.{LoaderView}
use Rattle.ms_loaders.specs.System.{states_of}
use Rattle.ms_loader_map.specs.Used.{used_at, used_in}
use Rattle.ms_base.specs.Run.Own.{own_of, own_in}
use Rattle.ms_run.proofs.TouchLemmas.{named_states}
use Rattle.ms_loaders.proofs.steps.UnloadLemmas.{state_of}

-- The sum of the entries' amounts without one.
pub amounts_apart : {X : Type 0} (amount : Option X → ℕ) (es : List (ℕ × X)) (name : ℕ) → amount None ≡ 0
    → sum_by (λ x. amount (Some x)) (values_of es)
    ≡ amount (named es name) + sum_by (λ x. amount (Some x)) (values_of (without es name))
amounts_apart amount [] name none = omega (arith, none)
amounts_apart {X} amount (e ∷ es) name none =
    elim (is_at (nat_cmp name) e.0) as (λ b. sum_by (λ x. amount (Some x)) (values_of (e ∷ es))
    ≡ amount (cond b (Some e.1) (named es name))
    + sum_by (λ x. amount (Some x)) (values_of (cond b es (e ∷ without es name)))) [
      | true ↦ sum_by-cons (λ (x : X). amount (Some x)) e.1 (values_of es)
      | false ↦
          omega (
            arith,
            amounts_apart amount es name none,
            sum_by-cons (λ (x : X). amount (Some x)) e.1 (values_of es),
            sum_by-cons (λ (x : X). amount (Some x)) e.1 (values_of (without es name)),
          )
    ]

-- One entry changes, comes or goes.
pub amounts_moved : {X : Type 0} (amount : Option X → ℕ) (old new : List (ℕ × X)) (name : ℕ) → amount None ≡ 0
    → AreNamed old → AreNamed new
    → ((other : ℕ) → (name ≡ other → ⊥) → named new other ≡ named old other)
    → sum_by (λ x. amount (Some x)) (values_of new) + amount (named old name)
    ≡ sum_by (λ x. amount (Some x)) (values_of old) + amount (named new name)
amounts_moved {X} amount old new name none rises rises_too others =
    omega (
      arith,
      amounts_apart amount old name none,
      amounts_apart amount new name none,
      ap (λ (es : List (ℕ × X)). sum_by (λ x. amount (Some x)) (values_of es)) rest,
    )
  where
    same : (other : ℕ) → named (without new name) other ≡ named (without old name) other
    same other = elim (cases_eq name other) [
      | inl is ↦ subst (λ (n : ℕ). named (without new name) n ≡ named (without old name) n) is
          (named_without_same new name rises_too ∙ sym (named_without_same old name rises))
      | inr differs ↦ named_without_other new name other differs ∙ others other differs
          ∙ sym (named_without_other old name other differs)
    ]

    rest : without new name ≡ without old name
    rest = same_entries (without new name) (without old name) (rises_without new name rises_too)
        (rises_without old name rises) same

-- The loader that a step names changes, comes or goes.
pub used_moved : (old new : List (ℕ × LoaderView)) (at : Option ℕ) (name : ℕ) → at ≡ Some name → AreNamed old
    → AreNamed new
    → ((other : ℕ) → at ≢ Some other → named new other ≡ named old other)
    → used_in new + used_at (named old name) ≡ used_in old + used_at (named new name)
used_moved old new at name names rises rises_too others =
    amounts_moved used_at old new name refl rises rises_too
    (λ other differs. others other (λ e. differs (same_Some name other (sym names ∙ e))))

-- The loader that a step names, if it names one, has in use what it had.
pub used_stays : (old new : List (ℕ × LoaderView)) (at : Option ℕ) → AreNamed old → AreNamed new
    → ((name : ℕ) → at ≢ Some name → named new name ≡ named old name)
    → ((name : ℕ) → used_at (named new name) ≡ used_at (named old name))
    → used_in new ≡ used_in old
used_stays old new None rises rises_too others same =
    ap used_in (same_entries new old rises_too rises (λ name. others name (λ e. absurd (cc))))
used_stays old new (Some name) rises rises_too others same =
    omega (arith, used_moved old new (Some name) name refl rises rises_too others, same name)

-- An unloaded loader is gone, whatever the reply, and its words with it.
is_gone : (before after : Option OwnLoader) (name : ℕ) (refused : Bool) (reply : Reply)
    → OwnReply before (Unload name) refused reply after → after ≡ None
is_gone None after name true (Refused refusal) own = absurd (own.0)
is_gone (Some was) after name true (Refused refusal) own = absurd (own.0)
is_gone before after name true Done own = absurd own
is_gone before after name true (At start) own = absurd own
is_gone before after name true (Value value) own = absurd own
is_gone None after name false (Refused NoLoader) own = own
is_gone None after name false _ own = absurd own
is_gone (Some was) after name false Done own = own
is_gone (Some was) after name false _ own = absurd own

none_used : (found : Option LoaderView) → own_of (option_map state_of found) ≡ None → used_at found ≡ 0
none_used None none = refl
none_used (Some loader) none = absurd (cc)

pub used_gone : (old new : List (ℕ × LoaderView)) (name : ℕ) (reply : Reply) → AreNamed old → AreNamed new
    → ((other : ℕ) → Some name ≢ Some other → named new other ≡ named old other)
    → (refused : Bool)
    × OwnReply (own_in (states_of old) name) (Unload name) refused reply (own_in (states_of new) name)
    → used_in new + used_at (named old name) ≡ used_in old
used_gone old new name reply rises rises_too others own =
    omega (arith, used_moved old new (Some name) name refl rises rises_too others, none)
  where
    none : used_at (named new name) ≡ 0
    none = none_used (named new name)
        (sym (ap own_of (named_states new name))
        ∙ is_gone (own_in (states_of old) name) (own_in (states_of new) name) name own.0 reply own.1)
