-- What each kind of step leaves that is served over the pool: pool and loaders together, by one
-- transition of the machine. For `served_goes`.
use Rattle.std.proofs.Common.{◌≡◌, ℕ, inl, inr, None, List, Ok, Err, Result}
use Rattle.std.proofs.Common.{refl, sym, ap, ◌∙◌, subst}
use Rattle.ms_base.specs.declared.kind.Kind.{Kind}
use Rattle.ms_base.specs.declared.kind.Space.{Space}
use Rattle.ms_base.specs.declared.kind.Space.TheVariants.{NonClass, Class}
use Rattle.ms_base.specs.declared.span.Block.{Block}
use Rattle.ms_base.specs.declared.refusal.Refusal.{Refusal}
use Rattle.ms_base.specs.declared.refusal.Refusal.TheVariants.{NoLoader, LoaderExists, OutOfMemory}
use Rattle.ms_base.specs.declared.step.Step.{Step}
use Rattle.ms_base.specs.declared.step.Step.TheVariants.{New, Write, Read, Free, Unload, Purge}
use Rattle.ms_base.specs.declared.step.Reply.{Reply}
use Rattle.ms_base.specs.declared.step.Reply.TheVariants.{Ok as Done, At, Value, Refused}
use Rattle.ms_base.specs.Names.{named, with_new}
use Rattle.ms_base.specs.Request.{alloc_in}
use Rattle.ms_base.specs.Transition.{Transition}
use Rattle.ms_pool.specs.Account.{AccountState}
use Rattle.ms_pool.specs.Ledger.{Ledger, Serves, IsSoundLedger, opened_in, with_both_closed}
use Rattle.ms_pool.specs.Calls.{Took, Grew, OpenedBoth, ClosedBoth, Purged}
use Rattle.ms_loader.specs.Loader.{LoaderView, account_in, new_loader, IsSoundView, WritesWord, FreesBlock, HasWord}
use Rattle.ms_loader.specs.Loader.{LacksWord, LacksName}
use Rattle.ms_loaders.specs.System.{machine_of, AreTogether}
use Rattle.ms_loaders.specs.Serving.{SourceCalls, calls_of, MakesLoader, MakesInVain, MakesNone, AllocatesIn}
use Rattle.ms_loaders.specs.Serving.{AllocatesAt, AllocatesNone, ChangesOne, LooksAt, IsLacking, ClosesLoader}
use Rattle.ms_loaders.proofs.steps.AllocStepLemmas.{reply_to, alloc_goes}
use Rattle.ms_loaders.proofs.steps.AlikeLemmas.{allocates_at_all}
use Rattle.ms_loaders.proofs.steps.CallLemmas.{together_written, is_written, together_freed, is_freed, read_is_served}
use Rattle.ms_loaders.proofs.steps.CallLemmas.{word_is_refused, free_is_refused}
use Rattle.ms_loaders.proofs.steps.CauseLemmas.{alloc_finds_none}
use Rattle.ms_loaders.proofs.steps.CloseLemmas.{with_both, first_account, second_account, together_made}
use Rattle.ms_loaders.proofs.steps.CloseLemmas.{machine_made}
use Rattle.ms_loaders.proofs.steps.PurgeStepLemmas.{together_purged, machine_purged_is}
use Rattle.ms_loaders.proofs.sums.FitLemmas.{machine_is_good}
use Rattle.ms_loaders.proofs.events.TalliedLemmas.{together_tallied}
use Rattle.ms_loaders.proofs.steps.StepLemmas.{has_loader, lacks_loader}
use Rattle.ms_loaders.proofs.steps.UnloadLemmas.{together_again, numbers_used, numbers_left, together_unloaded, is_unloaded}

-- What the pool says of itself.
abbrev pub pool_calls : SourceCalls Ledger
pool_calls = calls_of Serves opened_in (λ ledger. ledger.limits) Grew Took OpenedBoth ClosedBoth Purged

-- What a step leaves: pool and loaders together, by one transition, with the same limits.
pub record Goes (old : Ledger) (loaders : List (ℕ × LoaderView)) (step : Step) (reply : Reply) (new : Ledger)
    (others : List (ℕ × LoaderView)) : Type 0 where
  pub together : AreTogether new others
  pub step_is : Transition (machine_of old loaders) step reply (machine_of new others)
  pub limits : new.limits ≡ old.limits

module _ (old : Ledger) (loaders : List (ℕ × LoaderView)) (its : AreTogether old loaders) where
  -- Nothing changes.
  pub stays : (step : Step) (reply : Reply) (new : Ledger) (others : List (ℕ × LoaderView)) → new ≡ old → others ≡ loaders
      → Transition (machine_of old loaders) step reply (machine_of old loaders)
      → Goes old loaders step reply new others
  stays step reply new others source same goes =
      subst (λ (l : Ledger). Goes old loaders step reply l others) (sym source)
      (subst (λ (l : List (ℕ × LoaderView)). Goes old loaders step reply old l) (sym same)
      (record { together = its; step_is = goes; limits = refl }))

  -- A loader is made.
  pub makes : (name : ℕ) (kind : Kind) (new : Ledger) (others : List (ℕ × LoaderView)) → IsSoundLedger new
      → MakesLoader pool_calls loaders name kind old others new
      → Goes old loaders (New name kind) Done new others
  makes name kind new others sound made =
      let view_is : new_loader made.accounts.0 made.accounts.1 kind
      ≡ new_loader (first_account old) (second_account old) kind =
      ap (λ (p : AccountState × AccountState). new_loader p.0 p.1 kind) made.opened.0 in
      let together =
      together_made old loaders name kind made.unused its (subst IsSoundLedger made.opened.1 sound)
      (subst IsSoundView view_is made.sound) in
      subst (λ (l : Ledger). Goes old loaders (New name kind) Done l others) (sym made.opened.1)
      (subst (λ (l : List (ℕ × LoaderView)). Goes old loaders (New name kind) Done (with_both old) l)
      (sym (made.added ∙ ap (with_new loaders name) view_is)) (record {
        together = together;
        step_is = (
          record {
            unused = lacks_loader old loaders name made.unused;
            after = machine_made old loaders name kind made.unused its;
          },
          machine_is_good (with_both old) _ together,
        );
        limits = refl;
      }))

  -- A loader is refused.
  in_vain : (name : ℕ) (kind : Kind) (new : Ledger) → IsSoundLedger new
      → MakesInVain pool_calls loaders name kind old new
      → Goes old loaders (New name kind) (Refused OutOfMemory) new loaders
  in_vain name kind new sound made =
      let closed : new ≡ with_both_closed (with_both old) (first_account old) (second_account old) =
      made.closed
      ∙ ap (λ (l : Ledger). with_both_closed l (account_in NonClass (new_loader made.accounts.0 made.accounts.1 kind))
      (account_in Class (new_loader made.accounts.0 made.accounts.1 kind))) made.opened.1
      ∙ ap (λ (p : AccountState × AccountState). with_both_closed (with_both old)
      (account_in NonClass (new_loader p.0 p.1 kind)) (account_in Class (new_loader p.0 p.1 kind))) made.opened.0 in
      record {
        together = together_again old new loaders closed sound its;
        step_is = (
          (lacks_loader old loaders name made.unused, numbers_left old new loaders closed sound its),
          inr (numbers_used old new loaders closed sound its),
        );
        limits = ap (λ (l : Ledger). l.limits) closed;
      }

  no_numbers : (name : ℕ) (kind : Kind) (refusal : Refusal) (new : Ledger)
      → named loaders name ≡ None → OpenedBoth old (Err refusal) new
      → Goes old loaders (New name kind) (Refused refusal) new loaders
  no_numbers name kind refusal new unused refused =
      subst (λ (r : Refusal). Goes old loaders (New name kind) (Refused r) new loaders) (sym refused.0) (record {
        together = together_tallied old new loaders _ refused.2 its;
        step_is = (
          (lacks_loader old loaders name unused, refused.1),
          ap (λ (l : Ledger). machine_of l loaders) refused.2,
        );
        limits = ap (λ (l : Ledger). l.limits) refused.2;
      })

  pub not_made : (name : ℕ) (kind : Kind) (refusal : Refusal) (new : Ledger) → IsSoundLedger new
      → MakesNone pool_calls loaders name kind old refusal new
      → Goes old loaders (New name kind) (Refused refusal) new loaders
  not_made name kind refusal new sound (inl used) =
      subst (λ (r : Refusal). Goes old loaders (New name kind) (Refused r) new loaders) (sym used.0)
      (stays (New name kind) (Refused LoaderExists) new loaders used.2 refl (
        record { loader = used.1.0.state; has = has_loader old loaders name used.1.0 used.1.1 },
        refl,
      ))
  not_made name kind refusal new sound (inr (inl numbers)) =
      no_numbers name kind refusal new numbers.0 numbers.1
  not_made name kind refusal new sound (inr (inr memory)) =
      subst (λ (r : Refusal). Goes old loaders (New name kind) (Refused r) new loaders) (sym memory.0)
      (in_vain name kind new sound memory.1)

  -- A block is allocated, or is not.
  allocates : (space : Space) (name block words : ℕ) (answer : Result Block Refusal) (new : Ledger)
      (others : List (ℕ × LoaderView)) → IsSoundLedger new
      → AllocatesIn pool_calls space loaders name block words old answer others new
      → Goes old loaders (alloc_in space name block words) (reply_to answer) new others
  allocates space name block words answer new others sound made =
      let goes =
      alloc_goes space old new loaders name block words made.was made.is answer made.found
      (allocates_at_all _ _ _ _ _ _ _ _ _ made.allocates) sound made.sound its in
      subst (λ (l : List (ℕ × LoaderView)). Goes old loaders (alloc_in space name block words) (reply_to answer) new l)
      (sym made.changed) (record { together = goes.0; step_is = goes.1; limits = made.rest.limits_stay })

  pub allocates_at : (space : Space) (name block words start : ℕ) (new : Ledger) (others : List (ℕ × LoaderView))
      → IsSoundLedger new → AllocatesAt pool_calls space loaders name block words old start others new
      → Goes old loaders (alloc_in space name block words) (At start) new others
  allocates_at space name block words start new others sound made =
      subst (λ (n : ℕ). Goes old loaders (alloc_in space name block words) (At n) new others) (sym made.1)
      (allocates space name block words (Ok made.0) new others sound made.2)

  pub allocates_none : (space : Space) (name block words : ℕ) (refusal : Refusal) (new : Ledger)
      (others : List (ℕ × LoaderView)) → IsSoundLedger new
      → AllocatesNone pool_calls space loaders name block words old refusal others new
      → Goes old loaders (alloc_in space name block words) (Refused refusal) new others
  allocates_none space name block words refusal new others sound (inl none) =
      subst (λ (r : Refusal). Goes old loaders (alloc_in space name block words) (Refused r) new others)
      (sym none.0.refusal_is)
      (stays (alloc_in space name block words) (Refused NoLoader) new others none.1 none.0.same
      (alloc_finds_none space old loaders name block words none.0.none))
  allocates_none space name block words refusal new others sound (inr made) =
      allocates space name block words (Err refusal) new others sound made

  -- What needs no pool.
  pub writes : (name block index value : ℕ) (others : List (ℕ × LoaderView))
      → ChangesOne loaders name (λ was is. WritesWord was block index value is) others
      → Goes old loaders (Write name block index value) Done old others
  writes name block index value others made =
      subst (λ (l : List (ℕ × LoaderView)). Goes old loaders (Write name block index value) Done old l)
      (sym made.changed) (record {
        together = together_written old loaders name block made.was made.is made.found made.owners made.sound its index
            value made.so;
        step_is = is_written old loaders name block made.was made.is made.found made.owners made.sound its index value
            made.so;
        limits = refl;
      })

  pub frees : (name block : ℕ) (others : List (ℕ × LoaderView))
      → ChangesOne loaders name (λ was is. FreesBlock was block is) others
      → Goes old loaders (Free name block) Done old others
  frees name block others made =
      subst (λ (l : List (ℕ × LoaderView)). Goes old loaders (Free name block) Done old l) (sym made.changed) (record {
        together = together_freed old loaders name block made.was made.is made.found made.owners made.sound its made.so;
        step_is = is_freed old loaders name block made.was made.is made.found made.owners made.sound its made.so;
        limits = refl;
      })

  pub no_word_to_write : (name block index value : ℕ) (refusal : Refusal) (others : List (ℕ × LoaderView))
      → IsLacking loaders name (λ loader why. LacksWord loader block index why) refusal others
      → Goes old loaders (Write name block index value) (Refused refusal) old others
  no_word_to_write name block index value refusal others (inl none) =
      subst (λ (r : Refusal). Goes old loaders (Write name block index value) (Refused r) old others)
      (sym none.refusal_is)
      (stays (Write name block index value) (Refused NoLoader) old others refl none.same
      (lacks_loader old loaders name none.none, refl))
  no_word_to_write name block index value refusal others (inr lacks) =
      stays (Write name block index value) (Refused refusal) old others refl lacks.same (
        word_is_refused (machine_of old loaders) name block index lacks.loader.state refusal
            (has_loader old loaders name lacks.loader lacks.found) lacks.so,
        refl,
      )

  pub no_word_to_read : (name block index : ℕ) (refusal : Refusal) (others : List (ℕ × LoaderView))
      → IsLacking loaders name (λ loader why. LacksWord loader block index why) refusal others
      → Goes old loaders (Read name block index) (Refused refusal) old others
  no_word_to_read name block index refusal others (inl none) =
      subst (λ (r : Refusal). Goes old loaders (Read name block index) (Refused r) old others) (sym none.refusal_is)
      (stays (Read name block index) (Refused NoLoader) old others refl none.same
      (lacks_loader old loaders name none.none, refl))
  no_word_to_read name block index refusal others (inr lacks) =
      stays (Read name block index) (Refused refusal) old others refl lacks.same (
        word_is_refused (machine_of old loaders) name block index lacks.loader.state refusal
            (has_loader old loaders name lacks.loader lacks.found) lacks.so,
        refl,
      )

  pub no_block_to_free : (name block : ℕ) (refusal : Refusal) (others : List (ℕ × LoaderView))
      → IsLacking loaders name (λ loader why. LacksName loader block why) refusal others
      → Goes old loaders (Free name block) (Refused refusal) old others
  no_block_to_free name block refusal others (inl none) =
      subst (λ (r : Refusal). Goes old loaders (Free name block) (Refused r) old others) (sym none.refusal_is)
      (stays (Free name block) (Refused NoLoader) old others refl none.same
      (lacks_loader old loaders name none.none, refl))
  no_block_to_free name block refusal others (inr lacks) =
      stays (Free name block) (Refused refusal) old others refl lacks.same (
        free_is_refused (machine_of old loaders) name block lacks.loader.state refusal
            (has_loader old loaders name lacks.loader lacks.found) lacks.so,
        refl,
      )

  pub reads : (name block index value : ℕ) (others : List (ℕ × LoaderView))
      → LooksAt loaders name (λ loader. HasWord loader block index value) others
      → Goes old loaders (Read name block index) (Value value) old others
  reads name block index value others has = stays (Read name block index) (Value value) old others refl has.same (
    read_is_served (machine_of old loaders) name block index value has.loader.state
        (has_loader old loaders name has.loader has.found) has.so,
    machine_is_good old loaders its,
  )

  -- A loader is unloaded, and nodes are purged.
  pub unloads : (name : ℕ) (new : Ledger) (others : List (ℕ × LoaderView)) → IsSoundLedger new
      → ClosesLoader pool_calls loaders name old others new
      → Goes old loaders (Unload name) Done new others
  unloads name new others sound made =
      subst (λ (l : List (ℕ × LoaderView)). Goes old loaders (Unload name) Done new l) (sym made.gone) (record {
        together = together_unloaded old new loaders name made.loader made.found made.closed sound its;
        step_is = is_unloaded old new loaders name made.loader made.found made.closed sound its;
        limits = ap (λ (l : Ledger). l.limits) made.closed;
      })

  pub purges : (gone : ℕ) (new : Ledger) → IsSoundLedger new → Purged old gone new
      → Goes old loaders Purge Done new loaders
  purges gone new sound purged = record {
    together = together_purged old new loaders purged.1 sound its;
    step_is = machine_purged_is old new loaders purged.1 sound its;
    limits = ap (λ (l : Ledger). l.limits) purged.1;
  }
