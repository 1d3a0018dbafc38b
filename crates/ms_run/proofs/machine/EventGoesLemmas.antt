-- A worker's step that is done at an event is a transition of the machine of the pool and all
-- loaders. For the run of the machine that an order of steps is.
use Rattle.std.proofs.Common.{◌≡◌, ℕ, Option, Some, None, Err, List}
use Rattle.std.proofs.Common.{inr, refl, sym, ap, ◌∙◌, subst}
use Rattle.ms_base.specs.declared.kind.Kind.{Kind}
use Rattle.ms_base.specs.declared.step.Step.TheVariants.{New, Unload, Purge}
use Rattle.ms_base.specs.declared.step.Reply.TheVariants.{Ok as Done, Refused}
use Rattle.ms_base.specs.declared.refusal.Refusal.{Refusal}
use Rattle.ms_base.specs.declared.refusal.Refusal.TheVariants.{LoaderExists, IdsUsedUp, OutOfMemory}
use Rattle.ms_base.specs.Names.{named, with_new, without}
use Rattle.ms_base.specs.Transition.{Transition}
use Rattle.ms_base.proofs.entries.LookupLemmas.{named_new_same, named_new_other, named_without_other}
use Rattle.ms_base.proofs.events.SeenEntryLemmas.{named_without_same}
use Rattle.ms_pool.specs.Account.{AccountState}
use Rattle.ms_pool.specs.Ledger.{Ledger}
use Rattle.ms_pool.specs.Calls.{OpenedBoth}
use Rattle.ms_loader.specs.Loader.{LoaderView, new_loader, IsSoundView}
use Rattle.ms_loaders.specs.System.{machine_of}
use Rattle.ms_loaders.proofs.steps.CloseLemmas.{first_account, second_account}
use Rattle.ms_loaders.proofs.steps.StepLemmas.{lacks_loader}
use Rattle.ms_shared.specs.History.{Event}
use Rattle.ms_run.specs.Acts.{IsSoundEvent, IsOpening, IsClosing, IsPurging, OfLoader, IsOwnStep}
use Rattle.ms_run.proofs.machine.FilledLemmas.{AreWhole, whole_purged, purge_goes, whole_made, new_goes}
use Rattle.ms_run.proofs.machine.FilledLemmas.{whole_in_vain, numbers_gone, numbers_were, whole_unloaded, unload_goes, whole_told}
use Rattle.ms_run.proofs.machine.OwnViewLemmas.{own_view, new_wants, new_was_none, unload_leaves}
use Rattle.ms_run.proofs.machine.GoesLemmas.{GoesTo, goes_to, told_of}

-- A loader that is there has the event.
pub of_loader : (o : Option LoaderView) (is : LoaderView → Event → Type 0) (event : Event) → OfLoader o is event
    → (loader : LoaderView) × (o ≡ Some loader) × is loader event
of_loader None is event its = absurd its
of_loader (Some loader) is event its = (loader, refl, its)

module _ (event : Event) (sound : IsSoundEvent event) (all team : List (ℕ × LoaderView)) (whole : AreWhole event.0 all)
    (new : List (ℕ × LoaderView)) where
  pub purge_done : new ≡ team → IsPurging event → GoesTo event.0 all Purge Done event.1 new
  purge_done same its = record {
    now = all;
    whole = whole_purged event.0 event.1 all whole sound.1 its.1.1;
    goes = purge_goes event.0 event.1 all whole sound.1 its.1.1;
    here = λ name e. absurd (cc);
    others = λ name away. refl;
  }

  module _ (name : ℕ) (same : named all name ≡ named team name) where
    pub unload_done : IsOwnStep team (Unload name, Done) new → OfLoader (named team name) IsClosing event
        → GoesTo event.0 all (Unload name) Done event.1 new
    unload_done own its =
        let one = of_loader (named team name) IsClosing event its in
        let told = told_of event.0 all team whole name (Unload name) Done new same own refl in
        goes_to event.0 all (Unload name) Done event.1 new (without all name) name refl
        (whole_unloaded event.0 event.1 all whole sound.1 name one.0 (same ∙ one.1) one.2.closed)
        (unload_goes event.0 event.1 all whole sound.1 name one.0 (same ∙ one.1) one.2.closed)
        (named_without_same all name whole.names
        ∙ sym (unload_leaves name (named all name) (named new name) told.0 told.1))
        (λ other differ. named_without_other all name other differ)

    module _ (kind : Kind) (made_sound : (a b : AccountState) → IsSoundView (new_loader a b kind)) where
      pub new_done : IsOwnStep team (New name kind, Done) new → OfLoader (named new name) (IsOpening kind) event
          → GoesTo event.0 all (New name kind) Done event.1 new
      new_done own its =
          let one = of_loader (named new name) (IsOpening kind) event its in
          let told = told_of event.0 all team whole name (New name kind) Done new same own refl in
          let unused = new_was_none name (own_view (named new name)) kind (named all name) told.0 told.1 in
          goes_to event.0 all (New name kind) Done event.1 new
          (with_new all name (new_loader (first_account event.0) (second_account event.0) kind)) name refl
          (whole_made event.0 event.1 all whole sound.1 name kind unused one.2.2.1
          (made_sound (first_account event.0) (second_account event.0)))
          (new_goes event.0 event.1 all whole sound.1 name kind unused one.2.2.1
          (made_sound (first_account event.0) (second_account event.0)))
          (named_new_same all name (new_loader (first_account event.0) (second_account event.0) kind)
          ∙ ap (λ (v : LoaderView). Some v) (is_made one.0 one.2.0 one.2.1 one.2.2.0) ∙ sym one.1)
          (λ other differ. named_new_other all name
          (new_loader (first_account event.0) (second_account event.0) kind) other differ)
        where
          is_made : (loader : LoaderView) (accounts : AccountState × AccountState)
              → loader ≡ new_loader accounts.0 accounts.1 kind
              → accounts ≡ (first_account event.0, second_account event.0)
              → new_loader (first_account event.0) (second_account event.0) kind ≡ loader
          is_made loader accounts is are =
              sym (is ∙ ap (λ (a : AccountState × AccountState). new_loader a.0 a.1 kind) are)

      -- No number is left.
      pub new_none_left : (refusal : Refusal) → IsOwnStep team (New name kind, Refused refusal) new
          → OpenedBoth event.0 (Err refusal) event.1 → GoesTo event.0 all (New name kind) (Refused refusal) event.1 new
      new_none_left refusal own its =
          let told = told_of event.0 all team whole name (New name kind) (Refused refusal) new same own refl in
          let unused = new_wants name (own_view (named new name)) kind (named all name) told.0 refusal
          (λ e. let differ : IdsUsedUp ≡ LoaderExists = sym its.0 ∙ e in absurd (cc)) told.1 in
          goes_to event.0 all (New name kind) (Refused refusal) event.1 new all name refl
          (whole_told event.0 event.1 all whole its.2)
          (subst (λ (r : Refusal). Transition (machine_of event.0 all) (New name kind) (Refused r) (machine_of event.1 all))
          (sym its.0)
          ((lacks_loader event.0 all name unused, its.1), ap (λ (l : Ledger). machine_of l all) its.2))
          (same ∙ ap (λ (l : List (ℕ × LoaderView)). named l name) (sym own.touches))
          (λ other differ. refl)

      -- Two numbers are used up.
      pub new_in_vain : (refusal : Refusal) → IsOwnStep team (New name kind, Refused refusal) new → refusal ≡ OutOfMemory
          → (loader : LoaderView) → IsOpening kind loader event
          → GoesTo event.0 all (New name kind) (Refused refusal) event.1 new
      new_in_vain refusal own wants loader its =
          let told = told_of event.0 all team whole name (New name kind) (Refused refusal) new same own refl in
          let unused = new_wants name (own_view (named new name)) kind (named all name) told.0 refusal
          (λ e. let differ : OutOfMemory ≡ LoaderExists = sym wants ∙ e in absurd (cc)) told.1 in
          goes_to event.0 all (New name kind) (Refused refusal) event.1 new all name refl
          (whole_in_vain event.0 event.1 all whole sound.1 its.2.1)
          (subst (λ (r : Refusal). Transition (machine_of event.0 all) (New name kind) (Refused r) (machine_of event.1 all))
          (sym wants) (
            (lacks_loader event.0 all name unused, numbers_were event.0 event.1 all whole sound.1 its.2.1),
            inr (numbers_gone event.0 event.1 all whole sound.1 its.2.1),
          ))
          (same ∙ ap (λ (l : List (ℕ × LoaderView)). named l name) (sym own.touches))
          (λ other differ. refl)
