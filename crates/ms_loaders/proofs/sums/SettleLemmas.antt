-- Parts of a system of which a loader is held back: they may be given to `settle` still.
use Rattle.std.proofs.Common.{◌≡◌, ◌+◌, ℕ, Some, List, ◌∷◌, ◌++◌, map, length, sym, ap}
use Rattle.std.proofs.Common.{◌∙◌, subst, arith}
use Rattle.std.specs.List.{AllByRecursion}
use Rattle.std.proofs.lemmas.List.{length-append, map-append}
use Rattle.std.proofs.lemmas.List.Sums.{sum_by-append}
use Rattle.std.proofs.lemmas.List.Elements.{recursion_from_All, All-from_recursion}
use Rattle.ms_base.specs.declared.kind.Space.TheVariants.{NonClass, Class}
use Rattle.ms_base.specs.Names.{named, without}
use Rattle.ms_base.proofs.entries.EntryLemmas.{Split, split_at}
use Rattle.ms_pool.specs.Account.{AccountState}
use Rattle.ms_pool.specs.Ledger.{Ledger, Serves}
use Rattle.ms_loader.specs.Loader.{LoaderView, account_in}
use Rattle.ms_loaders.specs.System.{accounts_of}
use Rattle.ms_loaders.specs.Settles.{MaySettle, open_accounts, accounts_in}
use Rattle.ms_loaders.proofs.sums.FitLemmas.{owner_of}
use Rattle.ms_loaders.proofs.steps.ServedLemmas.{accounts_split, times, is_it, times_split, all_parts}
use Rattle.ms_loaders.proofs.steps.CloseLemmas.{accounts_joined}
use Rattle.ms_loaders.proofs.steps.UnloadLemmas.{both_all}

-- With a loader held back the parts may be given to `settle`: more accounts are open than are left.
pub may_settle_without : (ledger : Ledger) (loaders : List (ℕ × LoaderView)) (name : ℕ) (loader : LoaderView)
    → named loaders name ≡ Some loader
    → open_accounts ledger ≡ accounts_in loaders → MaySettle ledger loaders → MaySettle ledger (without loaders name)
may_settle_without ledger loaders name loader found all may = record {
  served = All-from_recursion (Serves ledger) (accounts_of (without loaders name))
      (subst (AllByRecursion (Serves ledger)) (sym now) (both_all (Serves ledger) first last parts.0 parts.3));
  distinct = λ number. omega (
    arith,
    may.distinct number,
    ap (λ (l : List AccountState). times number (map owner_of l)) before,
    ap (times number) (map-append owner_of first (account_in NonClass loader ∷ account_in Class loader ∷ last)),
    times_split number (map owner_of first) (map owner_of last) loader.owner loader.class_owner,
    ap (λ (l : List AccountState). times number (map owner_of l)) now,
    ap (times number) (map-append owner_of first last),
    sum_by-append (is_it number) (map owner_of first) (map owner_of last),
  );
  opened = omega (arith, may.opened, long);
  class_opened = omega (arith, may.class_opened, long);
  no_other = λ few. absurd (omega (arith, few, all, long));
}
  where
    split : Split loaders name loader
    split = split_at loaders name loader found

    first : List AccountState
    first = accounts_of split.before

    last : List AccountState
    last = accounts_of split.after

    before : accounts_of loaders ≡ first ++ account_in NonClass loader ∷ account_in Class loader ∷ last
    before = ap accounts_of split.is ∙ accounts_split split.before split.after name loader

    now : accounts_of (without loaders name) ≡ first ++ last
    now = ap accounts_of split.gone ∙ accounts_joined split.before split.after

    parts : AllByRecursion (Serves ledger) first × Serves ledger (account_in NonClass loader)
        × Serves ledger (account_in Class loader) × AllByRecursion (Serves ledger) last
    parts = all_parts (Serves ledger) first last (account_in NonClass loader) (account_in Class loader)
        (subst (AllByRecursion (Serves ledger)) before
        (recursion_from_All (Serves ledger) (accounts_of loaders) may.served))

    long : length loaders ≡ length (without loaders name) + 1
    long = ap length split.is ∙ length-append split.before ((name, loader) ∷ split.after)
        ∙ omega (arith, ap length split.gone, length-append split.before split.after)
