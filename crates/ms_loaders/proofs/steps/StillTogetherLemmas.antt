-- Pool and loaders stay together where an account of one loader changes. The steps use these.
use Rattle.std.proofs.Common.{◌≡◌, ◌≢◌, ℕ, Option, Some, IfSome, Result}
use Rattle.std.proofs.Common.{List, ◌∷◌, ◌++◌, map, sym, ap, ◌∙◌, subst}
use Rattle.std.specs.Ordering.{nat_cmp}
use Rattle.std.specs.List.{All, AllByRecursion}
use Rattle.std.specs.Map.{values_of}
use Rattle.std.specs.BTreeMap.{is_at}
use Rattle.std.proofs.lemmas.List.Elements.{recursion_from_All, All-from_recursion}
use Rattle.std.proofs.lemmas.Map.Views.{All-values-set_value, IfSome-lookup_from_All}
use Rattle.ms_base.specs.declared.kind.Space.{Space}
use Rattle.ms_base.specs.declared.kind.Space.TheVariants.{NonClass, Class}
use Rattle.ms_base.specs.declared.span.Chunk.{Chunk}
use Rattle.ms_base.specs.declared.span.Block.{Block}
use Rattle.ms_base.specs.declared.refusal.Refusal.{Refusal}
use Rattle.ms_base.specs.Spaces.{by_space}
use Rattle.ms_base.specs.Names.{named, with_changed}
use Rattle.ms_base.specs.State.{arena_of}
use Rattle.ms_base.proofs.entries.EntryLemmas.{Split, split_at, rises_with_changed}
use Rattle.ms_pool.specs.Account.{AccountState}
use Rattle.ms_pool.specs.Ledger.{Ledger, Serves, IsSoundLedger, opened_in}
use Rattle.ms_loader.specs.Loader.{LoaderView, account_in, IsSoundView, AllocatesBlock}
use Rattle.ms_loaders.specs.System.{accounts_of, owners_of, AreDistinct, AreServed, AreTogether}
use Rattle.ms_loaders.proofs.steps.OutcomeLemmas.{GrewAtAll, TookAtAll}
use Rattle.ms_loaders.proofs.sums.FitLemmas.{HasOwner, owner_of}
use Rattle.ms_loaders.proofs.steps.ServedLemmas.{accounts_split, all_parts, KeepsOther, all_still, owners_stay}
use Rattle.ms_loaders.proofs.steps.ServedLemmas.{own_is_among, block_keeps, block_has, length_changed}

-- Where all loaders are sound, so is one by its name.
pub named_sound : (loaders : List (ℕ × LoaderView)) (name : ℕ) (v : LoaderView) → named loaders name ≡ Some v
    → All IsSoundView (values_of loaders) → IsSoundView v
named_sound loaders name v found all =
    subst (λ (o : Option LoaderView). IfSome o IsSoundView) found
    (IfSome-lookup_from_All IsSoundView (is_at (nat_cmp name)) loaders all)

pub own_sound : (ledger : Ledger) (loaders : List (ℕ × LoaderView)) (name : ℕ) (v : LoaderView)
    → named loaders name ≡ Some v → AreTogether ledger loaders → IsSoundView v
own_sound ledger loaders name v found its = named_sound loaders name v found its.loaders_sound

-- So pool and loaders are together still where one loader changed in a space, and the pool for it
-- alone.
pub together_still : (space : Space) (old new : Ledger) (loaders : List (ℕ × LoaderView)) (name : ℕ)
    (was is : LoaderView) → named loaders name ≡ Some was → KeepsOther space was is → Serves new (account_in space is)
    → ((other : AccountState) → other.owner ≢ (account_in space was).owner → Serves old other → Serves new other)
    → All (HasOwner (owners_of loaders)) new.loans → opened_in new ≡ opened_in old → IsSoundLedger new
    → IsSoundView is → AreTogether old loaders → AreTogether new (with_changed loaders name is)
together_still space old new loaders name was is found keeps own each no_other opened ledger_sound is_sound its = record {
  ledger_sound = ledger_sound;
  loaders_sound = All-values-set_value (is_at (nat_cmp name)) IsSoundView loaders is its.loaders_sound is_sound;
  names = rises_with_changed loaders name is its.names;
  served = record {
    served = all_still (Serves old) (Serves new) space loaders name was is found keeps its.served.distinct each own
        its.served.served;
    distinct = subst AreDistinct (sym owners_same) its.served.distinct;
    no_other = subst (λ (owners : List ℕ). All (HasOwner owners) new.loans) (sym owners_same) no_other;
    opened = ap (λ (f : Space → ℕ). f NonClass) opened ∙ its.served.opened ∙ sym (length_changed loaders name is);
    class_opened = ap (λ (f : Space → ℕ). f Class) opened ∙ its.served.class_opened
        ∙ sym (length_changed loaders name is);
  };
}
  where
    owners_same : owners_of (with_changed loaders name is) ≡ owners_of loaders
    owners_same = owners_stay space loaders name was is found keeps

pub together_after : (space : Space) (old new : Ledger) (loaders : List (ℕ × LoaderView)) (name block words : ℕ)
    (was is : LoaderView) (answer : Result Block Refusal)
    → named loaders name ≡ Some was
    → AllocatesBlock GrewAtAll TookAtAll old.limits.policy space was block words old answer is new
    → Serves new (account_in space is)
    → ((other : AccountState) → other.owner ≢ (account_in space was).owner → Serves old other → Serves new other)
    → opened_in new ≡ opened_in old → IsSoundLedger new → IsSoundView is → AreTogether old loaders
    → AreTogether new (with_changed loaders name is)
together_after space old new loaders name block words was is answer found allocates own each opened ledger_sound
    is_sound its =
    together_still space old new loaders name was is found
    (block_keeps GrewAtAll TookAtAll old.limits.policy space was is block words old new answer allocates) own each
    (All-from_recursion (HasOwner (owners_of loaders)) new.loans
    (block_has (owners_of loaders) space was is block words old new answer
    (own_sound old loaders name was found its) allocates (own_is_among space loaders name was found)
    (recursion_from_All (HasOwner (owners_of loaders)) old.loans its.served.no_other)))
    opened ledger_sound is_sound its

-- Each loader's accounts are served.
pub own_served : (space : Space) (ledger : Ledger) (loaders : List (ℕ × LoaderView)) (name : ℕ) (v : LoaderView)
    → named loaders name ≡ Some v → AreServed ledger loaders
    → Serves ledger (account_in space v)
own_served space ledger loaders name v found its = go space
  where
    split : Split loaders name v
    split = split_at loaders name v found

    parts : AllByRecursion (Serves ledger) (accounts_of split.before) × Serves ledger (account_in NonClass v)
        × Serves ledger (account_in Class v) × AllByRecursion (Serves ledger) (accounts_of split.after)
    parts = all_parts (Serves ledger) (accounts_of split.before) (accounts_of split.after) (account_in NonClass v)
        (account_in Class v)
        (rw (ap accounts_of split.is
        ∙ accounts_split split.before split.after name v) at (recursion_from_All (Serves ledger)
        (accounts_of loaders) its.served))

    go : (one : Space) → Serves ledger (account_in one v)
    go NonClass = parts.1
    go Class = parts.2

-- Pool and loaders are together still where a loader changes but for its owners and chunks.
pub together_with : (ledger : Ledger) (loaders : List (ℕ × LoaderView)) (name : ℕ) (was is : LoaderView)
    → named loaders name ≡ Some was → is.owner ≡ was.owner → is.class_owner ≡ was.class_owner
    → ((space : Space) → (arena_of space is.state).chunks ≡ (arena_of space was.state).chunks) → IsSoundView is
    → AreTogether ledger loaders → AreTogether ledger (with_changed loaders name is)
together_with ledger loaders name was is found owner class_owner chunks sound its = record {
  ledger_sound = its.ledger_sound;
  loaders_sound = All-values-set_value (is_at (nat_cmp name)) IsSoundView loaders is its.loaders_sound sound;
  names = rises_with_changed loaders name is its.names;
  served = record {
    served = subst (All (Serves ledger)) (sym same) its.served.served;
    distinct = subst AreDistinct (sym (ap (map owner_of) same)) its.served.distinct;
    no_other =
        subst (λ (accounts : List AccountState). All (HasOwner (map owner_of accounts)) ledger.loans)
        (sym same) its.served.no_other;
    opened = its.served.opened ∙ sym (length_changed loaders name is);
    class_opened = its.served.class_opened ∙ sym (length_changed loaders name is);
  };
}
  where
    split : Split loaders name was
    split = split_at loaders name was found

    account_same : (space : Space) → by_space space is.owner is.class_owner ≡ by_space space was.owner was.class_owner
        → account_in space is ≡ account_in space was
    account_same space owners =
        ap (λ (n : ℕ). record { owner = n; space = space; chunks = (arena_of space is.state).chunks }) owners
        ∙ ap (λ (l : List Chunk).
        record { owner = by_space space was.owner was.class_owner; space = space; chunks = l }) (chunks space)

    same : accounts_of (with_changed loaders name is) ≡ accounts_of loaders
    same = ap accounts_of (split.changed is) ∙ accounts_split split.before split.after name is
        ∙ ap (λ (a : AccountState). accounts_of split.before ++ a ∷ account_in Class is ∷ accounts_of split.after)
        (account_same NonClass owner)
        ∙ ap (λ (a : AccountState). accounts_of split.before ++ account_in NonClass was ∷ a ∷ accounts_of split.after)
        (account_same Class class_owner)
        ∙ sym (ap accounts_of split.is ∙ accounts_split split.before split.after name was)
