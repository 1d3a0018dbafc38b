-- Each step of an order of workers' steps is a transition of the machine of the pool and all
-- loaders.
use Rattle.std.proofs.Common.{◌≡◌, ℕ, Bool, Option, Some, None, Ok, Err, List, [], ◌∷◌, length, inl, inr, refl, sym, ap, ◌∙◌, subst, arith}
use Rattle.ms_base.specs.declared.kind.Kind.{Kind}
use Rattle.ms_base.specs.declared.kind.Space.{Space}
use Rattle.ms_base.specs.declared.kind.Space.TheVariants.{NonClass, Class}
use Rattle.ms_base.specs.declared.step.Step.{Step}
use Rattle.ms_base.specs.declared.step.Step.TheVariants.{New, Alloc, Calloc, Write, Read, Free, Unload, Purge}
use Rattle.ms_base.specs.declared.step.Reply.{Reply}
use Rattle.ms_base.specs.declared.step.Reply.TheVariants.{Ok as Done, At, Value, Refused}
use Rattle.ms_base.specs.declared.refusal.Refusal.{Refusal}
use Rattle.ms_base.specs.declared.refusal.Refusal.TheVariants.{NoLoader}
use Rattle.ms_base.specs.Names.{named}
use Rattle.ms_base.specs.Request.{loader_of, alloc_in}
use Rattle.ms_base.specs.Run.Alone.{OwnLoader, OwnReply}
use Rattle.ms_pool.specs.Account.{AccountState}
use Rattle.ms_pool.specs.Ledger.{Ledger}
use Rattle.ms_loader.specs.Loader.{LoaderView, new_loader, IsSoundView}
use Rattle.ms_shared.specs.History.{Event}
use Rattle.ms_run.specs.Acts.{IsSoundEvent, Makes, AsksOf, IsOwnStep, OpensInVain, IsDoneBy, IsStep, seen}
use Rattle.ms_run.proofs.machine.FilledLemmas.{filled, AreWhole}
use Rattle.ms_run.proofs.machine.OwnViewLemmas.{own_view, read_answers, read_not_done, write_not_at, write_not_value}
use Rattle.ms_run.proofs.machine.OwnViewLemmas.{free_not_at, free_not_value, alloc_lacks, calloc_lacks}
use Rattle.ms_run.proofs.machine.GoesLemmas.{GoesTo, told_of, write_goes, free_goes, read_goes, write_refused, read_refused}
use Rattle.ms_run.proofs.machine.GoesLemmas.{free_refused, unload_refused, new_refused}
use Rattle.ms_run.proofs.machine.EventGoesLemmas.{purge_done, unload_done, new_done, new_none_left, new_in_vain}
use Rattle.ms_run.proofs.machine.AllocGoesLemmas.{there, alloc_at, alloc_refused, alloc_none}

pub no_event : (event : Event) → (event ∷ []) ≡ [] → ⊥
no_event event none = let long : length (event ∷ []) ≡ 0 = ap length none in absurd (omega arith)

-- Of an allocation that is refused without a loader, what its loader is told says why.
none_told : (space : Space) (name block words : ℕ) (o : Option LoaderView) (flag : Bool) (refusal : Refusal)
    (after : Option OwnLoader) → o ≡ None
    → OwnReply (own_view o) (alloc_in space name block words) flag (Refused refusal) after → refusal ≡ NoLoader
none_told NonClass name block words o flag refusal after none told =
    alloc_lacks name after block words flag refusal
    (subst (λ (p : Option LoaderView). OwnReply (own_view p) (Alloc name block words) flag (Refused refusal) after) none
    told)
none_told Class name block words o flag refusal after none told =
    calloc_lacks name after block words flag refusal
    (subst (λ (p : Option LoaderView). OwnReply (own_view p) (Calloc name block words) flag (Refused refusal) after) none
    told)

module _ (made_sound : (kind : Kind) (a b : AccountState) → IsSoundView (new_loader a b kind))
    (all team new : List (ℕ × LoaderView)) where
  -- An allocation with no event, or with one.
  module _ (space : Space) (name block words : ℕ) (names : loader_of (alloc_in space name block words) ≡ Some name)
      (same : named all name ≡ named team name) where
    alloc_still : (view : Ledger) → AreWhole view all → (start : ℕ) (is : LoaderView) → named new name ≡ Some is
        → IsSoundView is → AsksOf (named team name) (named new name) space block words (Ok start) []
        → GoesTo view all (alloc_in space name block words) (At start) view new
    alloc_still view whole start is left is_sound made =
        let its = there (named team name) (named new name) space block words (Ok start) [] is left made in
        let pool = filled (length all) view in
        let goes = alloc_at space pool pool all team new name block words names same whole
        whole.ledger_sound start its.was its.is is its.found its.left left is_sound (its.asks pool) in
        record { now = goes.now; whole = goes.whole; goes = goes.goes; here = goes.here; others = goes.others }

    alloc_event : (event : Event) → IsSoundEvent event → AreWhole event.0 all → (start : ℕ) (is : LoaderView)
        → named new name ≡ Some is → IsSoundView is
        → AsksOf (named team name) (named new name) space block words (Ok start) (event ∷ [])
        → GoesTo event.0 all (alloc_in space name block words) (At start) event.1 new
    alloc_event event sound whole start is left is_sound made =
        let its = there (named team name) (named new name) space block words (Ok start) (event ∷ []) is left made in
        alloc_at space event.0 event.1 all team new name block words names same whole sound.1 start its.was
        its.is is its.found its.left left is_sound its.asks.1

    module _ (refusal : Refusal) (unchanged : new ≡ team) where
      left_as : named new name ≡ named team name
      left_as = ap (λ (l : List (ℕ × LoaderView)). named l name) unchanged

      still_refused : (view : Ledger) → AreWhole view all → (o : Option LoaderView) → named team name ≡ o
          → (named team name ≡ None → refusal ≡ NoLoader)
          → AsksOf (named team name) (named new name) space block words (Err refusal) []
          → GoesTo view all (alloc_in space name block words) (Refused refusal) view new
      still_refused view whole None found why made =
          let pool = filled (length all) view in
          let goes = alloc_none space pool pool all team new name block words names same whole
          whole.ledger_sound refusal unchanged found (why found) refl in
          record { now = goes.now; whole = goes.whole; goes = goes.goes; here = goes.here; others = goes.others }
      still_refused view whole (Some was) found why made =
          let its = there (named team name) (named new name) space block words (Err refusal) [] was (left_as ∙ found) made
          in
          let pool = filled (length all) view in
          let goes = alloc_refused space pool pool all team new name block words names same whole
          whole.ledger_sound refusal its.was its.is unchanged its.found (its.asks pool) in
          record { now = goes.now; whole = goes.whole; goes = goes.goes; here = goes.here; others = goes.others }

      event_refused : (event : Event) → IsSoundEvent event → AreWhole event.0 all → (o : Option LoaderView)
          → named team name ≡ o → AsksOf (named team name) (named new name) space block words (Err refusal) (event ∷ [])
          → GoesTo event.0 all (alloc_in space name block words) (Refused refusal) event.1 new
      event_refused event sound whole None found made =
          absurd (no_event event (none_made (named team name) (named new name) found (left_as ∙ found) made))
        where
          none_made : (o p : Option LoaderView) → o ≡ None → p ≡ None
              → AsksOf o p space block words (Err refusal) (event ∷ []) → (event ∷ []) ≡ []
          none_made None None e f its = its
          none_made (Some was) p e f its = absurd (cc)
          none_made None (Some is) e f its = absurd (cc)
      event_refused event sound whole (Some was) found made =
          let its = there (named team name) (named new name) space block words (Err refusal) (event ∷ []) was
          (left_as ∙ found) made in
          alloc_refused space event.0 event.1 all team new name block words names same whole sound.1
          refusal its.was its.is unchanged its.found its.asks.1

  still_goes : (view : Ledger) → AreWhole view all → (step : Step) (reply : Reply)
      → ((name : ℕ) → loader_of step ≡ Some name → named all name ≡ named team name) → IsOwnStep team (step, reply) new
      → Makes team step reply new [] → GoesTo view all step reply view new
  still_goes view whole (New name kind) (Refused refusal) same own made =
      new_refused view all team whole name kind refusal new (same name refl) own made
  still_goes view whole (New name kind) _ same own made = absurd made
  still_goes view whole (Alloc name block words) (At start) same own made =
      alloc_still NonClass name block words refl (same name refl) view whole start own.touches.0 own.touches.1
      own.touches.2 made
  still_goes view whole (Alloc name block words) (Refused refusal) same own made =
      let told = told_of view all team whole name (Alloc name block words) (Refused refusal) new (same name refl) own refl
      in still_refused NonClass name block words refl (same name refl) refusal own.touches view whole (named team name)
      refl (λ none. none_told NonClass name block words (named all name) told.0 refusal (own_view (named new name))
      (same name refl ∙ none) told.1) made
  still_goes view whole (Alloc name block words) _ same own made = absurd made
  still_goes view whole (Calloc name block words) (At start) same own made =
      alloc_still Class name block words refl (same name refl) view whole start own.touches.0 own.touches.1
      own.touches.2 made
  still_goes view whole (Calloc name block words) (Refused refusal) same own made =
      let told = told_of view all team whole name (Calloc name block words) (Refused refusal) new (same name refl) own
      refl in
      still_refused Class name block words refl (same name refl) refusal own.touches view whole (named team name) refl
      (λ none. none_told Class name block words (named all name) told.0 refusal (own_view (named new name))
      (same name refl ∙ none) told.1) made
  still_goes view whole (Calloc name block words) _ same own made = absurd made
  still_goes view whole (Write name block index value) Done same own made =
      write_goes view all team whole name block index value new (same name refl) own.touches
  still_goes view whole (Write name block index value) (Refused refusal) same own made =
      write_refused view all team whole name block index value refusal new (same name refl) own
  still_goes view whole (Write name block index value) (At start) same own made =
      let told = told_of view all team whole name (Write name block index value) (At start) new (same name refl) own refl
      in absurd (write_not_at name block (own_view (named new name)) index value (named all name) told.0 start told.1)
  still_goes view whole (Write name block index value) (Value word) same own made =
      let told = told_of view all team whole name (Write name block index value) (Value word) new (same name refl) own
      refl in
      absurd (write_not_value name block (own_view (named new name)) index value (named all name) told.0 word told.1)
  still_goes view whole (Read name block index) (Value value) same own made =
      read_goes view all team whole name block index value new (same name refl) own
  still_goes view whole (Read name block index) (Refused refusal) same own made =
      read_refused view all team whole name block index refusal new (same name refl) own
  still_goes view whole (Read name block index) (At start) same own made =
      let told = told_of view all team whole name (Read name block index) (At start) new (same name refl) own refl in
      absurd (read_answers name block (own_view (named new name)) index (named all name) told.0 start told.1)
  still_goes view whole (Read name block index) Done same own made =
      let told = told_of view all team whole name (Read name block index) Done new (same name refl) own refl in
      absurd (read_not_done name block (own_view (named new name)) index (named all name) told.0 told.1)
  still_goes view whole (Free name block) Done same own made =
      free_goes view all team whole name block new (same name refl) own.touches
  still_goes view whole (Free name block) (Refused refusal) same own made =
      free_refused view all team whole name block refusal new (same name refl) own
  still_goes view whole (Free name block) (At start) same own made =
      let told = told_of view all team whole name (Free name block) (At start) new (same name refl) own refl in
      absurd (free_not_at name block (own_view (named new name)) (named all name) told.0 start told.1)
  still_goes view whole (Free name block) (Value word) same own made =
      let told = told_of view all team whole name (Free name block) (Value word) new (same name refl) own refl in
      absurd (free_not_value name block (own_view (named new name)) (named all name) told.0 word told.1)
  still_goes view whole (Unload name) (Refused refusal) same own made =
      unload_refused view all team whole name refusal new (same name refl) own
  still_goes view whole (Unload name) _ same own made = absurd made
  still_goes view whole Purge Done same own made = absurd made
  still_goes view whole Purge _ same own made = absurd made

  event_goes : (event : Event) → IsSoundEvent event → AreWhole event.0 all → (step : Step) (reply : Reply)
      → ((name : ℕ) → loader_of step ≡ Some name → named all name ≡ named team name) → IsOwnStep team (step, reply) new
      → Makes team step reply new (event ∷ []) → GoesTo event.0 all step reply event.1 new
  event_goes event sound whole (New name kind) Done same own made =
      new_done event sound all team whole new name (same name refl) kind (made_sound kind) own made
  event_goes event sound whole (New name kind) (Refused refusal) same own made =
      new_none_left event sound all team whole new name (same name refl) kind (made_sound kind) refusal own made
  event_goes event sound whole (New name kind) _ same own made = absurd made
  event_goes event sound whole (Alloc name block words) (At start) same own made =
      alloc_event NonClass name block words refl (same name refl) event sound whole start own.touches.0 own.touches.1
      own.touches.2 made
  event_goes event sound whole (Alloc name block words) (Refused refusal) same own made =
      event_refused NonClass name block words refl (same name refl) refusal own.touches event sound whole
      (named team name) refl made
  event_goes event sound whole (Alloc name block words) _ same own made = absurd made
  event_goes event sound whole (Calloc name block words) (At start) same own made =
      alloc_event Class name block words refl (same name refl) event sound whole start own.touches.0 own.touches.1
      own.touches.2 made
  event_goes event sound whole (Calloc name block words) (Refused refusal) same own made =
      event_refused Class name block words refl (same name refl) refusal own.touches event sound whole
      (named team name) refl made
  event_goes event sound whole (Calloc name block words) _ same own made = absurd made
  event_goes event sound whole (Write name block index value) reply same own made = absurd (no_event event made)
  event_goes event sound whole (Read name block index) reply same own made = absurd (no_event event made)
  event_goes event sound whole (Free name block) reply same own made = absurd (no_event event made)
  event_goes event sound whole (Unload name) Done same own made =
      unload_done event sound all team whole new name (same name refl) own made
  event_goes event sound whole (Unload name) (Refused refusal) same own made = absurd (no_event event made)
  event_goes event sound whole (Unload name) _ same own made = absurd made
  event_goes event sound whole Purge Done same own made = purge_done event sound all team whole new own.touches made
  event_goes event sound whole Purge _ same own made = absurd made

  vain_goes : (event : Event) → IsSoundEvent event → AreWhole event.0 all → (step : Step) (reply : Reply)
      → ((name : ℕ) → loader_of step ≡ Some name → named all name ≡ named team name) → IsOwnStep team (step, reply) new
      → OpensInVain step reply event → GoesTo event.0 all step reply event.1 new
  vain_goes event sound whole (New name kind) (Refused refusal) same own vain =
      new_in_vain event sound all team whole new name (same name refl) kind (made_sound kind) refusal own vain.0 vain.1
      vain.2
  vain_goes event sound whole _ _ same own vain = absurd vain

  at_event : (event : Event) → IsSoundEvent event → AreWhole event.0 all → (step : Step) (reply : Reply)
      → ((name : ℕ) → loader_of step ≡ Some name → named all name ≡ named team name) → IsOwnStep team (step, reply) new
      → IsDoneBy team step reply new event → GoesTo event.0 all step reply event.1 new
  at_event event sound whole step reply same own (inl made) = event_goes event sound whole step reply same own made
  at_event event sound whole step reply same own (inr vain) = vain_goes event sound whole step reply same own vain

  pub step_goes : (view after : Ledger) (step : Step) (reply : Reply) → AreWhole view all
      → ((name : ℕ) → loader_of step ≡ Some name → named all name ≡ named team name)
      → IsStep view team (step, reply) after new → GoesTo view all step reply after new
  step_goes view after step reply whole same its = elim its.pool [
    | inl stays ↦ subst (λ (l : Ledger). GoesTo view all step reply l new) (sym stays.0)
        (still_goes view whole step reply same its.loaders stays.1)
    | inr one ↦
        let goes = at_event one.0 one.1 (subst (λ (l : Ledger). AreWhole l all) (sym one.2) whole) step reply same
        its.loaders one.4 in
        subst (λ (l : Ledger). GoesTo l all step reply after new) one.2
        (subst (λ (l : Ledger). GoesTo (seen one.0.0) all step reply l new) one.3
        (record { now = goes.now; whole = goes.whole; goes = goes.goes; here = goes.here; others = goes.others }))
  ]
