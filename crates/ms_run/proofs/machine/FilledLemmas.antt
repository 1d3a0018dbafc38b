-- A pool as a step of the whole sees it, with as many accounts open as there are loaders: what its
-- calls make of it. For the run of the machine that an order of steps is.
use Rattle.std.proofs.Common.{◌≡◌, ℕ, ◌+◌, ◌≤◌, Some, None, List, length, refl, sym, ap, ◌∙◌, subst, arith}
use Rattle.std.proofs.lemmas.List.Elements.{recursion_from_All, All-from_recursion}
use Rattle.ms_base.specs.declared.kind.Kind.{Kind}
use Rattle.ms_base.specs.declared.kind.Space.TheVariants.{NonClass, Class}
use Rattle.ms_base.specs.Names.{named, with_new, without}
use Rattle.ms_base.specs.Transition.{Transition, HasOwnerNumbers}
use Rattle.ms_base.specs.declared.step.Step.TheVariants.{New, Unload, Purge}
use Rattle.ms_base.specs.declared.step.Reply.TheVariants.{Ok as Done}
use Rattle.ms_pool.specs.Tallies.{Tallies, no_tallies}
use Rattle.ms_pool.specs.Ledger.{Ledger, Serves, IsSoundLedger, with_both_closed, purged}
use Rattle.ms_loader.specs.Loader.{LoaderView, account_in, new_loader, IsSoundView}
use Rattle.ms_loaders.specs.System.{machine_of, accounts_of, AreTogether}
use Rattle.ms_loaders.proofs.sums.FitLemmas.{machine_is_good}
use Rattle.ms_loaders.proofs.steps.StepLemmas.{lacks_loader}
use Rattle.ms_loaders.proofs.steps.CloseLemmas.{with_both, first_account, second_account, served_with, together_made, machine_made}
use Rattle.ms_loaders.proofs.steps.PurgeStepLemmas.{together_purged, machine_purged_is}
use Rattle.ms_loaders.proofs.steps.UnloadLemmas.{together_unloaded, is_unloaded}

-- So many accounts are open in each space, and nothing was counted.
abbrev pub filled : ℕ → Ledger → Ledger
filled n pool = record pool { opened = n; class_opened = n; tallies = no_tallies }

pub filled_sound : (n : ℕ) (pool : Ledger) → n + n ≤ pool.given → IsSoundLedger pool → IsSoundLedger (filled n pool)
filled_sound n pool few its = record {
  spaces = its.spaces;
  order = its.order;
  owners = its.owners;
  given = its.given;
  opened = few;
  nodes = its.nodes;
  class_nodes = its.class_nodes;
}

-- A pool and loaders that are together, whatever was counted.
abbrev pub AreWhole : Ledger → List (ℕ × LoaderView) → Type 0
AreWhole pool loaders = AreTogether (filled (length loaders) pool) loaders

pub few_open : (pool : Ledger) (loaders : List (ℕ × LoaderView)) → AreWhole pool loaders
    → length loaders + length loaders ≤ pool.given
few_open pool loaders its = its.ledger_sound.opened

module _ (old new : Ledger) (loaders : List (ℕ × LoaderView)) (its : AreWhole old loaders) (sound : IsSoundLedger new)
  where
    abbrev n : ℕ
    n = length loaders

    -- A purge.
    module _ (is : new ≡ purged old) where
      filled_purged : filled n new ≡ purged (filled n old)
      filled_purged = ap (filled n) is

      still_few : n + n ≤ new.given
      still_few = omega (arith, few_open old loaders its, ap (λ (l : Ledger). l.given) is)

      pub whole_purged : AreWhole new loaders
      whole_purged = together_purged (filled n old) (filled n new) loaders filled_purged (filled_sound n new still_few sound) its

      pub purge_goes : Transition (machine_of old loaders) Purge Done (machine_of new loaders)
      purge_goes =
          machine_purged_is (filled n old) (filled n new) loaders filled_purged (filled_sound n new still_few sound) its

    -- A loader made.
    module _ (name : ℕ) (kind : Kind) (unused : named loaders name ≡ None) (is : new ≡ with_both old)
        (made_sound : IsSoundView (new_loader (first_account old) (second_account old) kind)) where
      abbrev pub made : LoaderView
      made = new_loader (first_account old) (second_account old) kind

      more : IsSoundLedger (with_both (filled n old))
      more = subst (λ (l : Ledger). IsSoundLedger l) (ap (filled (n + 1)) is)
          (filled_sound (n + 1) new (omega (arith, few_open old loaders its, ap (λ (l : Ledger). l.given) is)) sound)

      with_it : AreTogether (with_both (filled n old)) (with_new loaders name made)
      with_it = together_made (filled n old) loaders name kind unused its more made_sound

      pub whole_made : AreWhole new (with_new loaders name made)
      whole_made =
          subst (λ (k : ℕ). AreTogether (filled k new) (with_new loaders name made)) with_it.served.opened
          (subst (λ (l : Ledger). AreTogether l (with_new loaders name made)) (sym (ap (filled (n + 1)) is)) with_it)

      pub new_goes : Transition (machine_of old loaders) (New name kind) Done (machine_of new (with_new loaders name made))
      new_goes =
          subst (λ (l : Ledger). Transition (machine_of old loaders) (New name kind) Done
          (machine_of l (with_new loaders name made))) (sym is) (
            record {
              unused = lacks_loader (filled n old) loaders name unused;
              after = machine_made (filled n old) loaders name kind unused its;
            },
            machine_is_good (with_both (filled n old)) (with_new loaders name made) with_it,
          )

    -- Accounts opened in vain.
    module _ (is : new ≡ with_both old) where
      given_more : new.given ≡ old.given + 2
      given_more = ap (λ (l : Ledger). l.given) is ∙ omega arith

      pub whole_in_vain : AreWhole new loaders
      whole_in_vain = record {
        ledger_sound = filled_sound n new (omega (arith, few_open old loaders its, given_more)) sound;
        loaders_sound = its.loaders_sound;
        names = its.names;
        served = record {
          served = All-from_recursion (Serves (filled n new)) (accounts_of loaders)
              (served_with (filled n old) (filled n new) (ap (λ (l : Ledger). l.loans) is) (omega (arith, given_more))
              (accounts_of loaders) (recursion_from_All (Serves (filled n old)) (accounts_of loaders) its.served.served));
          distinct = its.served.distinct;
          no_other = rw (ap (λ (l : Ledger). l.loans) is) its.served.no_other;
          opened = refl;
          class_opened = refl;
        };
      }

      pub numbers_gone : machine_of new loaders ≡ record (machine_of old loaders) { given = old.given + 2 }
      numbers_gone = ap (λ (l : Ledger). machine_of l loaders) is
          ∙ ap (λ (k : ℕ). record (machine_of old loaders) { given = k }) (omega arith)

      pub numbers_were : HasOwnerNumbers (machine_of old loaders)
      numbers_were = omega (arith, sound.given, given_more)

    -- A loader unloaded.
    module _ (name : ℕ) (loader : LoaderView) (found : named loaders name ≡ Some loader)
        (is : new ≡ with_both_closed old (account_in NonClass loader) (account_in Class loader)) where
      abbrev less : Ledger
      less = with_both_closed (filled n old) (account_in NonClass loader) (account_in Class loader)

      is_less : filled less.opened new ≡ less
      is_less = ap (filled less.opened) is

      less_sound : IsSoundLedger less
      less_sound = subst (λ (l : Ledger). IsSoundLedger l) is_less
          (filled_sound less.opened new (omega (arith, few_open old loaders its, ap (λ (l : Ledger). l.given) is)) sound)

      without_it : AreTogether less (without loaders name)
      without_it = together_unloaded (filled n old) less loaders name loader found refl less_sound its

      pub whole_unloaded : AreWhole new (without loaders name)
      whole_unloaded =
          subst (λ (k : ℕ). AreTogether (filled k new) (without loaders name)) without_it.served.opened
          (subst (λ (l : Ledger). AreTogether l (without loaders name)) (sym is_less) without_it)

      pub unload_goes : Transition (machine_of old loaders) (Unload name) Done (machine_of new (without loaders name))
      unload_goes =
          subst (λ (l : Ledger). Transition (machine_of old loaders) (Unload name) Done (machine_of l (without loaders name)))
          (sym is) (is_unloaded (filled n old) less loaders name loader found refl less_sound its)

-- Something was counted, and nothing else changed.
pub whole_told : (old new : Ledger) (loaders : List (ℕ × LoaderView)) → AreWhole old loaders → {tallies : Tallies}
    → new ≡ record old { tallies = tallies } → AreWhole new loaders
whole_told old new loaders its is =
    subst (λ (l : Ledger). AreTogether l loaders) (sym (ap (filled (length loaders)) is)) its
