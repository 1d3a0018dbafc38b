-- Calls of the pool as events that ask for no chunk: a purge, the sums that are told, and both
-- accounts of a loader closed.
use Rattle.std.proofs.Common.{◌≡◌, ℕ, List, length, refl, sym, ap, ◌∙◌, subst, arith}
use Rattle.std.proofs.lemmas.List.{length-map}
use Rattle.ms_base.specs.declared.kind.Space.{Space}
use Rattle.ms_base.specs.declared.kind.Space.TheVariants.{NonClass, Class}
use Rattle.ms_base.specs.Names.{without}
use Rattle.ms_base.specs.State.{LoaderState, pool_of}
use Rattle.ms_base.specs.Totals.{pool_sums}
use Rattle.ms_base.specs.Transition.{Unloads}
use Rattle.ms_base.specs.Run.Event.{purging, telling, closing, accepted, counted, told}
use Rattle.ms_pool.specs.declared.totals.PoolTotals.{PoolTotals}
use Rattle.ms_pool.specs.Account.{AccountState}
use Rattle.ms_pool.specs.Ledger.{Ledger, IsSoundLedger, opened_in, purged}
use Rattle.ms_pool.specs.Calls.{Purged, Totalled, sums_in}
use Rattle.ms_pool.proofs.ledger.PurgeLemmas.{purged_is_sound}
use Rattle.ms_pool.proofs.ledger.LedgerCloseLemmas.{both_closed_is_sound}
use Rattle.ms_loader.specs.Loader.{LoaderView, account_in}
use Rattle.ms_loaders.specs.System.{states_of, machine_of, AreTogether}
use Rattle.ms_loaders.specs.CallEvents.{IsEvent, IsCloseCall}
use Rattle.ms_loaders.proofs.sums.TotalsLemmas.{pool_tells}
use Rattle.ms_loaders.proofs.steps.StepLemmas.{has_loader}
use Rattle.ms_loaders.proofs.steps.PurgeStepLemmas.{together_purged, machine_purged_is}
use Rattle.ms_loaders.proofs.steps.UnloadLemmas.{together_unloaded, is_unloaded}

-- Nodes are purged.
pub purges : (old new : Ledger) (loaders : List (ℕ × LoaderView)) (gone : ℕ) → AreTogether old loaders
    → Purged old gone new → IsEvent old loaders purging (counted gone) new loaders
purges old new loaders gone its purged = record {
  happens = record {
    nodes_are = omega (arith, purged.0);
    after = (machine_purged_is old new loaders purged.1 sound its).0;
  };
  together = together_purged old new loaders purged.1 sound its;
}
  where
    sound : IsSoundLedger new
    sound = subst IsSoundLedger (sym purged.1) (purged_is_sound old its.ledger_sound)

abbrev state_with : ℕ × LoaderView → ℕ × LoaderState
state_with entry = (entry.0, entry.1.state)

-- Sums are told: as many accounts are open in a space as there are loaders.
accounts_are : (old : Ledger) (loaders : List (ℕ × LoaderView)) → AreTogether old loaders → (space : Space)
    → opened_in old space ≡ length (states_of loaders)
accounts_are old loaders its NonClass = its.served.opened ∙ sym (length-map loaders state_with)
accounts_are old loaders its Class = its.served.class_opened ∙ sym (length-map loaders state_with)

pub totals : (old new : Ledger) (loaders : List (ℕ × LoaderView)) (account : AccountState) (sums : PoolTotals)
    → AreTogether old loaders → Totalled old account sums new
    → IsEvent old loaders (telling account.space) (told (sums_in sums)) new loaders
totals old new loaders account sums its totalled =
    subst (λ (l : Ledger). IsEvent old loaders (telling account.space) (told (sums_in sums)) l loaders)
    (sym totalled.1) (record {
      happens = record {
        sums_are = totalled.0
            ∙ pool_tells old loaders its account.space (opened_in old account.space)
            ∙ ap (pool_sums (pool_of account.space (machine_of old loaders)))
            (accounts_are old loaders its account.space);
        after = refl;
      };
      together = its;
    })

-- Both accounts of a loader without blocks are closed.
pub closes : (old new : Ledger) (loaders : List (ℕ × LoaderView)) (name : ℕ) (loader : LoaderView)
    → IsCloseCall old loaders name loader new
    → IsEvent old loaders (closing name) accepted new (without loaders name)
closes old new loaders name loader its = record {
  happens = record {
    loader = loader.state;
    has = has_loader old loaders name loader its.there.found;
    blocks = its.blocks;
    kept = its.kept;
    after = unloads.after;
  };
  together = together_unloaded old new loaders name loader its.there.found its.closed sound its.there.together;
}
  where
    sound : IsSoundLedger new
    sound = subst IsSoundLedger (sym its.closed)
        (both_closed_is_sound old (account_in NonClass loader) (account_in Class loader)
        its.there.together.ledger_sound)

    unloads : Unloads (machine_of old loaders) name (machine_of new (without loaders name))
    unloads = (is_unloaded old new loaders name loader its.there.found its.closed sound its.there.together).0
