-- A worker's step, over its own loaders and what is seen of the pool, is a transition of the
-- machine of the pool and all loaders. For the run of the machine that an order of steps is.
use Rattle.std.proofs.Common.{◌≡◌, ◌≢◌, ℕ, Bool, Option, Some, None, List, length, refl, sym, ap, ◌∙◌, subst}
use Rattle.std.proofs.lemmas.Option.{same_Some}
use Rattle.ms_base.specs.declared.kind.Kind.{Kind}
use Rattle.ms_base.specs.declared.step.Step.{Step}
use Rattle.ms_base.specs.declared.step.Step.TheVariants.{New, Write, Read, Free, Unload}
use Rattle.ms_base.specs.declared.step.Reply.{Reply}
use Rattle.ms_base.specs.declared.step.Reply.TheVariants.{Ok as Done, Value, Refused}
use Rattle.ms_base.specs.declared.refusal.Refusal.{Refusal}
use Rattle.ms_base.specs.declared.refusal.Refusal.TheVariants.{LoaderExists}
use Rattle.ms_base.specs.Names.{named, with_changed}
use Rattle.ms_base.specs.Request.{loader_of}
use Rattle.ms_base.specs.Run.Alone.{OwnLoader, OwnReply}
use Rattle.ms_base.specs.Transition.{Transition, WordCause, BlockCause}
use Rattle.ms_base.proofs.entries.LookupLemmas.{named_changed_same, named_changed_other}
use Rattle.ms_pool.specs.Ledger.{Ledger}
use Rattle.ms_loader.specs.Loader.{LoaderView, WritesWord, FreesBlock}
use Rattle.ms_loaders.specs.System.{AreTogether, states_of, machine_of}
use Rattle.ms_loaders.proofs.sums.FitLemmas.{machine_is_good}
use Rattle.ms_loaders.proofs.steps.ServedLemmas.{length_changed}
use Rattle.ms_loaders.proofs.steps.StepLemmas.{has_loader, lacks_loader}
use Rattle.ms_loaders.proofs.steps.CallLemmas.{read_is_served, word_is_refused, free_is_refused, together_written}
use Rattle.ms_loaders.proofs.steps.CallLemmas.{is_written, together_freed, is_freed}
use Rattle.ms_base.specs.Run.Own.{own_in}
use Rattle.ms_run.specs.Acts.{ChangesLoader, IsOwnStep}
use Rattle.ms_run.proofs.machine.FilledLemmas.{filled, AreWhole}
use Rattle.ms_run.proofs.machine.OwnViewLemmas.{own_view, own_view_is, LacksWordIn, LacksNameIn, write_lacks}
use Rattle.ms_run.proofs.machine.OwnViewLemmas.{read_lacks, free_lacks, reads_word, unload_lacks, new_there}

-- The machine makes the step, and all loaders are what the worker's are.
pub record GoesTo (view : Ledger) (all : List (ℕ × LoaderView)) (step : Step) (reply : Reply) (after : Ledger)
    (team : List (ℕ × LoaderView)) : Type 0 where
  pub now : List (ℕ × LoaderView)
  pub whole : AreWhole after now
  pub goes : Transition (machine_of view all) step reply (machine_of after now)
  pub here : (name : ℕ) → loader_of step ≡ Some name → named now name ≡ named team name
  pub others : (name : ℕ) → loader_of step ≢ Some name → named now name ≡ named all name

one_name : (step : Step) (name other : ℕ) → loader_of step ≡ Some name → loader_of step ≡ Some other → name ≡ other
one_name step name other its same = same_Some name other (sym its ∙ same)

-- A step of one loader.
pub goes_to : (view : Ledger) (all : List (ℕ × LoaderView)) (step : Step) (reply : Reply) (after : Ledger)
    (team now : List (ℕ × LoaderView)) (name : ℕ) → loader_of step ≡ Some name → AreWhole after now
    → Transition (machine_of view all) step reply (machine_of after now) → named now name ≡ named team name
    → ((other : ℕ) → (name ≡ other → ⊥) → named now other ≡ named all other)
    → GoesTo view all step reply after team
goes_to view all step reply after team now name its whole goes here others = record {
  now = now;
  whole = whole;
  goes = goes;
  here = λ other same.
      subst (λ (n : ℕ). named now n ≡ named team n) (one_name step name other its same) here;
  others = λ other away. others other (λ same. away (its ∙ ap (λ (n : ℕ). Some n) same));
}

module _ (view : Ledger) (all team : List (ℕ × LoaderView)) (whole : AreWhole view all) where
  -- The pool and all loaders stay.
  pub stays : (step : Step) (reply : Reply) (new : List (ℕ × LoaderView)) (name : ℕ) → loader_of step ≡ Some name
      → named all name ≡ named team name → new ≡ team
      → Transition (machine_of view all) step reply (machine_of view all) → GoesTo view all step reply view new
  stays step reply new name its same unchanged goes =
      goes_to view all step reply view new all name its whole goes
      (same ∙ ap (λ (l : List (ℕ × LoaderView)). named l name) (sym unchanged)) (λ other differ. refl)

  word_cause : (name block index : ℕ) (refusal : Refusal) (o : Option LoaderView) → named all name ≡ o
      → LacksWordIn o block index refusal → WordCause (machine_of view all) name block index refusal
  word_cause name block index refusal None none lacks =
      subst (λ (r : Refusal). WordCause (machine_of view all) name block index r) (sym lacks)
      (lacks_loader view all name none)
  word_cause name block index refusal (Some loader) found lacks =
      word_is_refused (machine_of view all) name block index loader.state refusal (has_loader view all name loader found)
      lacks

  block_cause : (name block : ℕ) (refusal : Refusal) (o : Option LoaderView) → named all name ≡ o
      → LacksNameIn o block refusal → BlockCause (machine_of view all) name block refusal
  block_cause name block refusal None none lacks =
      subst (λ (r : Refusal). BlockCause (machine_of view all) name block r) (sym lacks)
      (lacks_loader view all name none)
  block_cause name block refusal (Some loader) found lacks =
      free_is_refused (machine_of view all) name block loader.state refusal (has_loader view all name loader found) lacks

  -- What a loader of the worker's is told of, by all loaders.
  pub told_of : (name : ℕ) (step : Step) (reply : Reply) (new : List (ℕ × LoaderView))
      → named all name ≡ named team name → IsOwnStep team (step, reply) new → loader_of step ≡ Some name
      → (flag : Bool) × OwnReply (own_view (named all name)) step flag reply (own_view (named new name))
  told_of name step reply new same own its =
      let told = own.own name its in (
        told.0,
        subst (λ (o : Option OwnLoader). OwnReply (own_view (named all name)) step told.0 reply o) (own_view_is new name)
            (subst (λ (o : Option OwnLoader). OwnReply o step told.0 reply (own_in (states_of new) name))
            (own_view_is team name ∙ ap own_view (sym same)) told.1),
      )

  -- Words and blocks.
  pub write_goes : (name block index value : ℕ) (new : List (ℕ × LoaderView)) → named all name ≡ named team name
      → ChangesLoader team name (λ was is. WritesWord was block index value is) new
      → GoesTo view all (Write name block index value) Done view new
  write_goes name block index value new same its =
      let found = same ∙ its.found in
      goes_to view all (Write name block index value) Done view new (with_changed all name its.is) name refl
      (subst (λ (n : ℕ). AreTogetherAt n its.is) (sym (length_changed all name its.is))
      (together_written (filled (length all) view) all name block its.was its.is found its.owners its.sound whole index
      value its.so))
      (is_written (filled (length all) view) all name block its.was its.is found its.owners its.sound whole index value
      its.so)
      (named_changed_same all name its.was its.is found ∙ sym its.after)
      (λ other differ. named_changed_other all name its.is other differ)
    where
      AreTogetherAt : ℕ → LoaderView → Type 0
      AreTogetherAt n is = AreTogether (filled n view) (with_changed all name is)

  pub free_goes : (name block : ℕ) (new : List (ℕ × LoaderView)) → named all name ≡ named team name
      → ChangesLoader team name (λ was is. FreesBlock was block is) new → GoesTo view all (Free name block) Done view new
  free_goes name block new same its =
      let found = same ∙ its.found in
      goes_to view all (Free name block) Done view new (with_changed all name its.is) name refl
      (subst (λ (n : ℕ). AreTogetherAt n its.is) (sym (length_changed all name its.is))
      (together_freed (filled (length all) view) all name block its.was its.is found its.owners its.sound whole its.so))
      (is_freed (filled (length all) view) all name block its.was its.is found its.owners its.sound whole its.so)
      (named_changed_same all name its.was its.is found ∙ sym its.after)
      (λ other differ. named_changed_other all name its.is other differ)
    where
      AreTogetherAt : ℕ → LoaderView → Type 0
      AreTogetherAt n is = AreTogether (filled n view) (with_changed all name is)

  pub read_goes : (name block index value : ℕ) (new : List (ℕ × LoaderView)) → named all name ≡ named team name
      → IsOwnStep team (Read name block index, Value value) new
      → GoesTo view all (Read name block index) (Value value) view new
  read_goes name block index value new same own =
      let told = told_of name (Read name block index) (Value value) new same own refl in
      let its = reads_word name block (own_view (named new name)) index value (named all name) told.0 told.1 in
      stays (Read name block index) (Value value) new name refl same own.touches (
        read_is_served (machine_of view all) name block index value its.0.state (has_loader view all name its.0 its.1) its.2,
        machine_is_good (filled (length all) view) all whole,
      )

  pub write_refused : (name block index value : ℕ) (refusal : Refusal) (new : List (ℕ × LoaderView))
      → named all name ≡ named team name → IsOwnStep team (Write name block index value, Refused refusal) new
      → GoesTo view all (Write name block index value) (Refused refusal) view new
  write_refused name block index value refusal new same own =
      let told = told_of name (Write name block index value) (Refused refusal) new same own refl in
      stays (Write name block index value) (Refused refusal) new name refl same own.touches (
        word_cause name block index refusal (named all name) refl
            (write_lacks name block (own_view (named new name)) index value (named all name) told.0 refusal told.1),
        refl,
      )

  pub read_refused : (name block index : ℕ) (refusal : Refusal) (new : List (ℕ × LoaderView))
      → named all name ≡ named team name → IsOwnStep team (Read name block index, Refused refusal) new
      → GoesTo view all (Read name block index) (Refused refusal) view new
  read_refused name block index refusal new same own =
      let told = told_of name (Read name block index) (Refused refusal) new same own refl in
      stays (Read name block index) (Refused refusal) new name refl same own.touches (
        word_cause name block index refusal (named all name) refl
            (read_lacks name block (own_view (named new name)) index (named all name) told.0 refusal told.1),
        refl,
      )

  pub free_refused : (name block : ℕ) (refusal : Refusal) (new : List (ℕ × LoaderView))
      → named all name ≡ named team name → IsOwnStep team (Free name block, Refused refusal) new
      → GoesTo view all (Free name block) (Refused refusal) view new
  free_refused name block refusal new same own =
      let told = told_of name (Free name block) (Refused refusal) new same own refl in
      stays (Free name block) (Refused refusal) new name refl same own.touches (
        block_cause name block refusal (named all name) refl
            (free_lacks name block (own_view (named new name)) (named all name) told.0 refusal told.1),
        refl,
      )

  pub unload_refused : (name : ℕ) (refusal : Refusal) (new : List (ℕ × LoaderView)) → named all name ≡ named team name
      → IsOwnStep team (Unload name, Refused refusal) new → GoesTo view all (Unload name) (Refused refusal) view new
  unload_refused name refusal new same own =
      let told = told_of name (Unload name) (Refused refusal) new same own refl in
      let its = unload_lacks name (own_view (named new name)) (named all name) told.0 refusal told.1 in
      stays (Unload name) (Refused refusal) new name refl same own.touches
      (subst (λ (r : Refusal). Transition (machine_of view all) (Unload name) (Refused r) (machine_of view all))
      (sym its.1) (lacks_loader view all name its.0, refl))

  pub new_refused : (name : ℕ) (kind : Kind) (refusal : Refusal) (new : List (ℕ × LoaderView))
      → named all name ≡ named team name → IsOwnStep team (New name kind, Refused refusal) new → refusal ≡ LoaderExists
      → GoesTo view all (New name kind) (Refused refusal) view new
  new_refused name kind refusal new same own exists =
      let told = told_of name (New name kind) (Refused refusal) new same own refl in
      let its = new_there name (own_view (named new name)) kind (named all name) told.0
      (subst (λ (r : Refusal). OwnReply (own_view (named all name)) (New name kind) told.0 (Refused r)
      (own_view (named new name))) exists told.1) in
      stays (New name kind) (Refused refusal) new name refl same own.touches
      (subst (λ (r : Refusal). Transition (machine_of view all) (New name kind) (Refused r) (machine_of view all))
      (sym exists) (record { loader = its.0.state; has = has_loader view all name its.0 its.1 }, refl))
